use Rattle.std.proofs.Common.{arith}
use Rattle.c62_depend.specs.Plan.{insns_of}
use Rattle.c62_depend.proofs.Plans.{many_insns}
use Rattle.c62_raised.proofs.Loops.{all_longest}
use Rattle.c62_raised.proofs.lead.leads.Goals as goal

pub returns-clause-are : goal.returns-clause-are
returns-clause-are c =
    all_longest (insns_of c.args.plan.now) c.args.i c.loop-j.j c.loop-j.leads.items c.loop-j.invariant.long
    (omega (arith, c.loop-j-test.false, c.len-j-end.ensures.len, many_insns c.args.plan.now.insns))
    c.loop-j.invariant.are
