use Rattle.std.proofs.Common.{arith}
use Rattle.c62_depend.proofs.Plans.{many_insns}
use Rattle.c62_pack.proofs.SpotIssues.{as_many}
use Rattle.c62_pack.proofs.packets.placed_at.Goals as goal

pub returns-clause-count : goal.returns-clause-count
returns-clause-count c = as_many c.args.plan.now.insns c.args.spots.now c.in_ok-placed.placed.items
    c.in_ok-placed.ensures.numbered

pub returns-clause-few : goal.returns-clause-few
returns-clause-few c =
    let few = c.len-all.ensures.sound.few in
    let all = as_many c.args.plan.now.insns c.args.spots.now c.in_ok-placed.placed.items c.in_ok-placed.ensures.numbered
    in
    omega (arith, few, all, many_insns c.args.plan.now.insns)
