use Rattle.c62_depend.proofs.Common.{insns_of}
use Rattle.c62_depend.proofs.Latencies.{depends_is}
use Rattle.c62_depend.proofs.plan.Plan.depends.Goals as goal

pub returns : goal.returns
returns c = depends_is (insns_of c.args.self.now) c.args.i c.args.j c.latency.result c.is_some.result
    c.latency.ensures.greatest c.is_some.ensures
