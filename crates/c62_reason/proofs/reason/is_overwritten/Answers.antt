use Rattle.std.proofs.Common.{rules, ◌≡◌, ℕ, ℤ, w32, FitsSigned, true, List, refl, subst}
use Rattle.std.specs.Prelude.{Contains}
use Rattle.std.proofs.lemmas.Int.{to_z-of_z}
use Rattle.c62_op.specs.declared.register.Reg.{Reg}
use Rattle.c62_insn.specs.Insn.{register_writes}
use Rattle.c62_reason.specs.Reason.{IsBehind}
use Rattle.c62_reason.proofs.GoneOver.{is_there}
use Rattle.c62_reason.proofs.reason.is_overwritten.Goals as goal

pub returns-then-is_behind : goal.returns-then-is_behind
returns-then-is_behind c =
    let at = c.loop-write in
    let fits : FitsSigned w32 c.args.cycles = search rules in
    let items : c.as_slice-write-items.result.now ≡ register_writes c.args.second = search rules in
    let yes : true ≡ true = refl in (
      λ _. (
        c.write-item.result,
        subst (λ (ws : List (Reg × ℕ)). Contains ws c.write-item.result) items
            (is_there (IsBehind c.args.cycles c.args.earlier) c.as_slice-write-items.result.now at.write-index
            c.write-item.result c.loop-write-test.true c.write-item.is),
        subst (λ (z : ℤ). IsBehind z c.args.earlier c.write-item.result) (to_z-of_z w32 c.args.cycles fits)
            (c.is_behind.ensures.0 c.if-is_behind.true),
      ),
      λ _. yes,
    )
