use Rattle.std.proofs.Common.{rules, ◌≤◌, ℤ, w32, FitsSigned, to_z, of_z, length, subst}
use Rattle.std.specs.Prelude.{All}
use Rattle.std.proofs.lemmas.Int.{to_z-of_z}
use Rattle.c62_reason.specs.Reason.{IsRead}
use Rattle.c62_reason.proofs.GoneOver.{not_next, none_is, is_there}
use Rattle.c62_reason.proofs.reason.first_read.Goals as goal

pub returns-then-is_read : goal.returns-then-is_read
returns-then-is_read c =
    let at = c.loop-write in
    let fits : FitsSigned w32 c.args.cycles = search rules in (
      c.write-item.result.1,
      is_there (IsRead c.args.second c.args.cycles) c.args.writes.now at.write-index c.write-item.result
          c.loop-write-test.true c.write-item.is,
      subst (λ (z : ℤ). IsRead c.args.second z c.write-item.result) (to_z-of_z w32 c.args.cycles fits)
          (c.is_read.ensures.0 c.if-is_read.true),
    )

pub loop-write-preserved : goal.loop-write-preserved
loop-write-preserved c =
    let at = c.loop-write in
    not_next (IsRead c.args.second (to_z w32 (of_z w32 c.args.cycles))) c.args.writes.now at.write-index
    c.write-item.result at.invariant c.loop-write-test.true c.write-item.is
    (λ is. (let told = c.is_read.ensures.1 is in let not_told = c.if-is_read.false in absurd cc))

pub returns : goal.returns
returns c =
    let at = c.loop-write in
    let fits : FitsSigned w32 c.args.cycles = search rules in
    let end : length c.args.writes.now ≤ at.write-index = search rules in
    subst (λ (z : ℤ). All (λ write. IsRead c.args.second z write → ⊥) c.args.writes.now)
    (to_z-of_z w32 c.args.cycles fits)
    (none_is (IsRead c.args.second (to_z w32 (of_z w32 c.args.cycles))) c.args.writes.now at.write-index at.invariant
    end)
