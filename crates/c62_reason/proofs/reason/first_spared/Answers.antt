use Rattle.std.proofs.Common.{rules, ◌≤◌, ℤ, w32, FitsSigned, to_z, of_z, length, subst}
use Rattle.std.specs.Prelude.{All}
use Rattle.std.proofs.lemmas.Int.{to_z-of_z}
use Rattle.c62_reason.specs.Reason.{IsSpared}
use Rattle.c62_reason.proofs.GoneOver.{not_next, none_is, is_there}
use Rattle.c62_reason.proofs.reason.first_spared.Goals as goal

pub returns-then-is_spared : goal.returns-then-is_spared
returns-then-is_spared c =
    let at = c.loop-write in
    let fits : FitsSigned w32 c.args.cycles = search rules in (
      c.write-item.result.1,
      is_there (IsSpared c.args.first c.args.cycles) c.args.writes.now at.write-index c.write-item.result
          c.loop-write-test.true c.write-item.is,
      subst (λ (z : ℤ). IsSpared c.args.first z c.write-item.result) (to_z-of_z w32 c.args.cycles fits)
          (c.is_spared.ensures.0 c.if-is_spared.true),
    )

pub loop-write-preserved : goal.loop-write-preserved
loop-write-preserved c =
    let at = c.loop-write in
    not_next (IsSpared c.args.first (to_z w32 (of_z w32 c.args.cycles))) c.args.writes.now at.write-index
    c.write-item.result at.invariant c.loop-write-test.true c.write-item.is
    (λ is. (let told = c.is_spared.ensures.1 is in let not_told = c.if-is_spared.false in absurd cc))

pub returns : goal.returns
returns c =
    let at = c.loop-write in
    let fits : FitsSigned w32 c.args.cycles = search rules in
    let end : length c.args.writes.now ≤ at.write-index = search rules in
    subst (λ (z : ℤ). All (λ write. IsSpared c.args.first z write → ⊥) c.args.writes.now)
    (to_z-of_z w32 c.args.cycles fits)
    (none_is (IsSpared c.args.first (to_z w32 (of_z w32 c.args.cycles))) c.args.writes.now at.write-index at.invariant
    end)
