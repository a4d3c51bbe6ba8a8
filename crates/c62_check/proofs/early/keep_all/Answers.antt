use Rattle.std.proofs.Common.{rules, arith, ◌≤◌, length}
use Rattle.c62_depend.specs.Plan.{insns_of}
use Rattle.c62_depend.proofs.Plans.{many_insns}
use Rattle.c62_check.proofs.Kept.{keep_all}
use Rattle.c62_check.proofs.early.keep_all.Goals as goal

pub returns : goal.returns
returns c =
    let many = many_insns c.args.plan.now.insns in
    let end : length c.args.plan.now.insns ≤ c.loop-number.number = search rules in
    keep_all (insns_of c.args.plan.now) c.args.placed.now c.loop-number.number (omega (arith, many, c.requires))
    (omega (arith, many, end)) c.loop-number.invariant
