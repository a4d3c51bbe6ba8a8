use Rattle.c62_depend.proofs.Common.{subst, IsTrue, Serial, is_block, insns_of}
use Rattle.c62_depend.proofs.Plans.{plan_is, few_insns, last_branch}
use Rattle.c62_depend.proofs.plan.Plan.len.Goals as goal

pub returns-clause-sound : goal.returns-clause-sound
returns-clause-sound c =
    let sound = subst (λ (block : Serial). IsTrue (is_block block.insns)) c.self.view_is c.insns.ensures.sound in
    plan_is (insns_of c.args.self.now) (few_insns c.args.self.now.insns sound) (last_branch c.args.self.now.insns sound)
