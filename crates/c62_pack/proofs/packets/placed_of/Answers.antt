use Rattle.std.proofs.Common.{arith, length, ap, ◌∙◌}
use Rattle.c62_read.specs.Block.{Serial}
use Rattle.c62_depend.proofs.Plans.{many_insns}
use Rattle.c62_pack.proofs.SpotIssues.{as_many}
use Rattle.c62_pack.proofs.packets.placed_of.Goals as goal

pub returns-clause-count : goal.returns-clause-count
returns-clause-count c =
    as_many c.plan-plan.result.now.insns c.deref.result.now c.in_ok-placed.placed.items c.in_ok-placed.ensures.numbered
    ∙ ap (λ (plan : Serial). length plan.insns) c.plan-plan.ensures.plan

pub returns-clause-few : goal.returns-clause-few
returns-clause-few c =
    let few = c.len-all.ensures.sound.few in
    let all = as_many c.plan-plan.result.now.insns c.deref.result.now c.in_ok-placed.placed.items
    c.in_ok-placed.ensures.numbered in
    omega (arith, few, all, many_insns c.plan-plan.result.now.insns)
