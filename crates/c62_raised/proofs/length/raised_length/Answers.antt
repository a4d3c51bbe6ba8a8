use Rattle.std.proofs.Common.{arith}
use Rattle.c62_depend.specs.Plan.{insns_of}
use Rattle.c62_depend.proofs.Plans.{many_insns}
use Rattle.std.specs.Prelude.{slice_index}
use Rattle.c62_raised.specs.Chain.{lead_in}
use Rattle.c62_raised.proofs.Lengths.{empty_length}
use Rattle.c62_raised.proofs.Orders.{covers_all}
use Rattle.c62_raised.proofs.length.raised_length.Goals as goal

pub returns-then-len-eq0 : goal.returns-then-len-eq0
returns-then-len-eq0 c = empty_length (insns_of c.args.plan.now)
    (omega (arith, c.if-len-eq0.true, c.len.ensures.len, many_insns c.args.plan.now.insns))

pub raised-requires-clause-covers : goal.raised-requires-clause-covers
raised-requires-clause-covers c =
    rw c.as_slice.ensures.value
    (rw c.as_slice-2.ensures.value
    (covers_all (insns_of c.args.plan.now) (slice_index c.heights-order.result.heights) c.heights-order.result.order.items
    (lead_in c.at_once-leads.result.items) c.heights-order.ensures.order c.at_once-leads.ensures.are))
