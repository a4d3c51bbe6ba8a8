-- On which units the branch and the step of a kernel stand.
use Rattle.std.proofs.Common.{arith, true, false, not, ◌≡◌, ℕ, List, [], ◌∷◌, Some, refl, sym}
use Rattle.std.proofs.Common.{ap}
use Rattle.std.proofs.Common.{◌∙◌, subst, inl}
use Rattle.std.specs.List.{list_any}
use Rattle.std.proofs.lemmas.Bool.{false≢true}
use Rattle.c62_op.specs.declared.register.Letter.{Letter}
use Rattle.c62_op.specs.declared.register.Letter.TheVariants.{S, M}
use Rattle.c62_op.specs.declared.register.Reg.{Reg}
use Rattle.c62_op.specs.declared.register.Unit.{Unit as FunctionalUnit}
use Rattle.c62_op.specs.declared.operands.Op.{Op}
use Rattle.c62_op.specs.declared.operands.AddressForm.{AddressForm}
use Rattle.c62_op.specs.declared.operands.Offset.{Offset}
use Rattle.c62_op.specs.declared.operands.Operands.{Operands}
use Rattle.c62_op.specs.declared.operands.Operands.TheVariants.{Three, ConstantFirst, ConstantSecond, Two, Field}
use Rattle.c62_op.specs.declared.operands.Operands.TheVariants.{Constant, Access, Block, Register}
use Rattle.c62_op.specs.Shape.{side_of, delay_of, is_load, is_store, is_branch, writes_of}
use Rattle.c62_op.specs.Takes.{takes, has_kind, has_letter, same_side, same_letter, same_reg}
use Rattle.c62_op.proofs.TakenTests.{taken_letter, taken_kind}
use Rattle.c62_op.proofs.Registers.{same_side-refl}
use Rattle.c62_op.proofs.SideLemmas.{takes_on_side}
use Rattle.c62_insn.specs.declared.effect.Target.TheVariants.{Block as ToBlock}
use Rattle.c62_insn.specs.Insn.{op_of, operands_of, register_writes}
use Rattle.c62_serial.specs.Effect.{Act}
use Rattle.c62_serial.proofs.BranchLemmas.{goes_branch}
use Rattle.c62_meaning.proofs.Lookup.{In, Contains_from_In}
use Rattle.c62_packet.specs.declared.placed.Placed.{Placed}
use Rattle.c62_loop.specs.Counter.{steps_on, IsTest}
use Rattle.c62_loop.specs.Whole.{entry_of, IsControl}
use Rattle.c62_loop_bound.specs.Share.{takers_of_branch, takers_of_step}

-- ---- branches

branch_letter : (op : Op) (letter : Letter) → is_branch op ≡ true → has_letter op letter ≡ true
    → same_letter letter S ≡ true
branch_letter op letter is on = grind (arith, is, on)

-- what tests the counter stands on a unit .S
pub branch_takers : (counter : Reg) (label : ℕ) (p : Placed) → IsControl counter label p
    → steps_on counter (entry_of p) ≡ false → takes (op_of p.insn) (operands_of p.insn) p.unit ≡ true
    → takers_of_branch p.unit ≡ true
branch_takers counter label p control no_step taking =
    let test : IsTest counter label (entry_of p) = control.counted.test no_step control.touch in
    let branch : is_branch (op_of p.insn) ≡ true
    = goes_branch p.insn 0 (λ reg. 1) (λ address. 0) (ToBlock label)
    (ap (λ (act : Act). act.target) (test 0 (λ reg. 1) (λ address. 0))) in
    branch_letter (op_of p.insn) p.unit.letter branch (taken_letter (op_of p.insn) (operands_of p.insn) p.unit taking)

-- ---- steps

at_once : (op : Op) (letter : Letter) → has_letter op letter ≡ true → delay_of op ≡ 0
    → not (same_letter letter M) ≡ true
at_once op letter on none = grind (arith, on, none)

accesses : (op : Op) (reg base : Reg) (form : AddressForm) (offset : Offset)
    → has_kind op (Access reg base form offset) ≡ true → is_load op ≡ false → is_store op ≡ false → ⊥
accesses op reg base form offset kind no_load no_store = grind (arith, kind, no_load, no_store)

-- an instruction of which each write is of the counter and lands at once, and which makes no access, stands on the
-- counter's side, and not on .M
on_side : (counter : Reg) (op : Op) (operands : Operands) (unit : FunctionalUnit) (write : Reg × ℕ)
    → takes op operands unit ≡ true → is_load op ≡ false → is_store op ≡ false
    → ((w : Reg × ℕ) → In w (writes_of op operands) → w ≡ (counter, 0)) → In write (writes_of op operands)
    → takers_of_step counter unit ≡ true
on_side counter op operands unit write taking no_load no_store only member = by_operands operands refl
  where
    -- the destination
    at : (d : Reg) → side_of operands ≡ Some d.side → ◌≡◌ {A = Reg × ℕ} (d, delay_of op) (counter, 0)
        → takers_of_step counter unit ≡ true
    at d sided is =
        let side : unit.side ≡ counter.side = takes_on_side op operands unit d.side sided taking
        ∙ ap (λ (w : Reg × ℕ). w.0.side) is in
        let same : same_side unit.side counter.side ≡ true = ap (λ s. same_side s counter.side) side
        ∙ same_side-refl counter.side in
        let no_product : not (same_letter unit.letter M) ≡ true = at_once op unit.letter
        (taken_letter op operands unit taking) (ap (λ (w : Reg × ℕ). w.1) is) in
        rw (same, no_product) refl

    by_operands : (o : Operands) → operands ≡ o → takers_of_step counter unit ≡ true
    by_operands (Three a b d) e = at d (ap side_of e) (only (d, delay_of op) (rw e (inl refl)))
    by_operands (ConstantFirst k a d) e = at d (ap side_of e) (only (d, delay_of op) (rw e (inl refl)))
    by_operands (ConstantSecond a k d) e = at d (ap side_of e) (only (d, delay_of op) (rw e (inl refl)))
    by_operands (Two a d) e = at d (ap side_of e) (only (d, delay_of op) (rw e (inl refl)))
    by_operands (Field a k m d) e = at d (ap side_of e) (only (d, delay_of op) (rw e (inl refl)))
    by_operands (Constant k d) e = at d (ap side_of e) (only (d, delay_of op) (rw e (inl refl)))
    by_operands (Access reg base form offset) e = absurd
        (accesses op reg base form offset (ap (has_kind op) (sym e) ∙ taken_kind op operands unit taking) no_load
        no_store)
    by_operands (Block number) e = absurd (subst (λ o. In write (writes_of op o)) e member)
    by_operands (Register reg) e = absurd (subst (λ o. In write (writes_of op o)) e member)

written : (counter : Reg) (writes : List (Reg × ℕ)) → list_any (λ write. same_reg write.0 counter) writes ≡ true
    → (write : Reg × ℕ) × In write writes
written counter [] h = absurd (false≢true h)
written counter (w ∷ writes) h = (w, inl refl)

-- what lowers the counter stands on one of the units of its side but .M
pub step_takers : (counter : Reg) (label : ℕ) (p : Placed) → IsControl counter label p
    → steps_on counter (entry_of p) ≡ true → takes (op_of p.insn) (operands_of p.insn) p.unit ≡ true
    → takers_of_step counter p.unit ≡ true
step_takers counter label p control step taking =
    let w = written counter (register_writes p.insn) step in
    on_side counter (op_of p.insn) (operands_of p.insn) p.unit w.0 taking control.no_load control.no_store
    (λ write member. control.writes write (Contains_from_In write (register_writes p.insn) member)) w.1
