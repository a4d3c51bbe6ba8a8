use Rattle.c62_sheet.proofs.Common.{arith, rules, ◌≡◌, ◌*◌, insns_of, many_insns}
use Rattle.std.specs.Prelude.{replicate}
use Rattle.c62_sheet.proofs.StandingSpots.{standing_first}
use Rattle.c62_sheet.proofs.standing.none_standing.Goals as goal

pub returns : goal.returns
returns c =
    let made : c.in_ok-standing.standing.items ≡ replicate (40 * c.from.result) 0 = search rules in
    rw made (standing_first (insns_of c.args.plan.now) (40 * c.from.result) (omega (arith, many_insns)))
