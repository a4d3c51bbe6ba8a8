use Rattle.c62_sheet.proofs.Common.{insns_of}
use Rattle.c62_depend.proofs.Latencies.{latency_small_at}
use Rattle.c62_sheet.proofs.early.bound_from.Goals as goal

pub first_behind-requires-clause-small : goal.first_behind-requires-clause-small
first_behind-requires-clause-small c = latency_small_at (insns_of c.args.plan.now) c.args.h c.args.i c.latency.result
    c.latency.ensures.latency

pub returns : goal.returns
returns c = rw (← c.latency.ensures.latency) c.first_behind.ensures
