-- The examples of breaches break the packet rules.
use Rattle.std.proofs.Common.{arith, refl, ◌≡◌, ℕ, ◌+◌, ◌≤◌, ap, sym, ◌∙◌, subst, Bool, true, false, cond, List, []}
use Rattle.std.proofs.Common.{◌∷◌, Some, inl, inr}
use Rattle.std.specs.Prelude.{not, count_by, Contains}
use Rattle.std.proofs.lemmas.Option.{none-some}
use Rattle.std.proofs.lemmas.Bool.{or_right}
use Rattle.c62_op.specs.declared.register.Side.{Side}
use Rattle.c62_op.specs.declared.register.Side.TheVariants.{A, B}
use Rattle.c62_op.specs.declared.register.Reg.{Reg}
use Rattle.c62_op.specs.declared.operands.Op.{Op}
use Rattle.c62_op.specs.declared.operands.Op.TheVariants.{Add, Mpy}
use Rattle.c62_op.specs.declared.operands.AddressForm.{AddressForm}
use Rattle.c62_op.specs.declared.operands.Offset.{Offset}
use Rattle.c62_op.specs.declared.operands.Operands.{Operands}
use Rattle.c62_op.specs.declared.operands.Operands.TheVariants.{Three, Access}
use Rattle.c62_insn.specs.declared.insn.Insn.{Insn}
use Rattle.c62_op.specs.Takes.{same_side, same_reg}
use Rattle.c62_op.specs.Shape.{reads_of, writes_of, crosses_to, data_path_of}
use Rattle.c62_insn.specs.Insn.{op_of, operands_of, register_writes, reads_count}
use Rattle.c62_rules.specs.Breaches.{l1, s1, m1, d1, d2, issue, TwoOnOneUnit, TwoOverCrossPath, TwoOverDataPath}
use Rattle.c62_rules.specs.Breaches.{FiveReads, TwoLandings}
use Rattle.c62_op.proofs.Registers.{same_reg-refl}

first-second : ◌≡◌ {A = ℕ} 0 1 → ⊥
first-second e = absurd (omega (arith, e))

pub two-on-one-unit : TwoOnOneUnit
two-on-one-unit p q keeps = first-second (keeps l1 0 1 (issue p 0 l1) (issue q 0 l1) refl refl refl refl refl)

crossing : (p : Insn) (a b d : Reg) → operands_of p ≡ Three a b d → b.side ≡ B → crosses_to A (operands_of p) ≡ true
crossing p a b d e other =
    ap (crosses_to A) e ∙ or_right (not (same_side a.side A)) (not (same_side b.side A))
    (ap (λ (side : Side). not (same_side side A)) other)

pub two-over-cross-path : TwoOverCrossPath
two-over-cross-path p q a b d e f g first second here there keeps =
    first-second (keeps A 0 1 (issue p 0 l1) (issue q 0 s1) refl refl refl (refl, crossing p a b d first here)
    (refl, crossing q e f g second there))

on-path : (p : Insn) (reg base : Reg) (form : AddressForm) (offset : Offset)
    → operands_of p ≡ Access reg base form offset → reg.side ≡ A
    → data_path_of (operands_of p) ≡ Some A
on-path p reg base form offset e side = ap data_path_of e ∙ ap (λ (s : Side). Some s) side

pub two-over-data-path : TwoOverDataPath
two-over-data-path p q a b d e form other offset last first second here there keeps =
    first-second (keeps A 0 1 (issue p 0 d1) (issue q 0 d2) refl refl refl (on-path p a b form offset first here)
    (on-path q d e other last second there))

two-reads : (p : Insn) (a d : Reg) → operands_of p ≡ Three a a d → reads_count a p ≡ 2
two-reads p a d e = ap
    (λ (operands : Operands). count_by (λ (read : Reg). same_reg read a) (reads_of (op_of p) operands)) e
    ∙ rw (same_reg-refl a) refl

one-or-two : (t : Bool) → 1 ≤ 1 + cond t 1 0
one-or-two true = omega arith
one-or-two false = omega arith

one-read : (p : Insn) (a b d : Reg) → operands_of p ≡ Three a b d → 1 ≤ reads_count a p
one-read p a b d e =
    let is : reads_count a p ≡ 1 + cond (same_reg b a) 1 0 =
    ap (λ (operands : Operands). count_by (λ (read : Reg). same_reg read a) (reads_of (op_of p) operands)) e
    ∙ rw (same_reg-refl a) refl in
    omega (arith, is, one-or-two (same_reg b a))

pub five-reads : FiveReads
five-reads p q r a b d e f first second third keeps =
    absurd (omega (arith, two-reads p a d first, two-reads q a e second, one-read r a b f third, keeps 0 a))

writes-after : (op : Op) (p : Insn) (a b d : Reg) (delay : ℕ) → op_of p ≡ op → operands_of p ≡ Three a b d
    → writes_of op (Three a b d) ≡ (d, delay) ∷ []
    → Contains (register_writes p) (d, delay)
writes-after op p a b d delay is e written =
    let all : register_writes p ≡ (d, delay) ∷ [] = ap (λ (o : Op). writes_of o (operands_of p)) is
    ∙ ap (writes_of op) e ∙ written in
    subst (λ (ws : List (Reg × ℕ)). Contains ws (d, delay)) (sym all) (0, omega arith, refl)

pub two-landings : TwoLandings
two-landings p q a b d e f multiplies adds first second unexcused keeps =
    elim (keeps 0 1 (issue p 0 m1) (issue q 1 l1) d 1 refl refl
    (1, writes-after Mpy p a b d 1 multiplies first refl, refl)
    (0, writes-after Add q e f d 0 adds second refl, refl)) [
      | inl same ↦ first-second same
      | inr may ↦ absurd (none-some may.one (sym unexcused ∙ may.is_one))
    ]
