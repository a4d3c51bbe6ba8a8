use Rattle.c62_depend.proofs.Common.{◌≡◌, refl, insns_of, latency}
use Rattle.c62_depend.proofs.Latencies.{greatest_from, latency_late}
use Rattle.c62_depend.proofs.plan.Plan.latency.Goals as goal

pub returns-then-i-j : goal.returns-then-i-j
returns-then-i-j c =
    let is : c.latency.result ≡ latency (insns_of c.args.self.now) c.args.i c.args.j =
    rw (c.latency.ensures, c.deref.ensures.value, c.self.invariant.insns, c.self.view_is) refl in
    record { greatest = greatest_from (insns_of c.args.self.now) c.args.i c.args.j c.latency.result is; latency = is }

pub returns-else-i-j : goal.returns-else-i-j
returns-else-i-j c =
    let is = latency_late (insns_of c.args.self.now) c.args.i c.args.j c.if-i-j.false in
    record { greatest = greatest_from (insns_of c.args.self.now) c.args.i c.args.j _ is; latency = is }
