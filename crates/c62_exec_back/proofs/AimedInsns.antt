-- An instruction with its target by another number.
use Rattle.std.proofs.Common.{◌≡◌, ℕ, false, None, refl, sym, subst}
use Rattle.std.proofs.lemmas.Bool.{false≢true}
use Rattle.c62_op.specs.declared.operands.Operands.{Operands}
use Rattle.c62_op.specs.declared.operands.Operands.TheVariants.{Three, ConstantFirst, ConstantSecond, Two, Field}
use Rattle.c62_op.specs.declared.operands.Operands.TheVariants.{Constant, Access, Block as ToBlock, Register}
use Rattle.c62_insn.specs.declared.insn.Insn.{Insn}
use Rattle.c62_insn.specs.Fault.{form_fault}
use Rattle.c62_insn.specs.Insn.{op_of, operands_of, cond_of, unit_of, aimed_operands}
use Rattle.c62_insn.proofs.AimLemmas.{aimed}
use Rattle.c62_adopt_line.specs.Laws.{names_block}

-- ---- an instruction with its target by another number

pub aimed_fine : (operands : Operands) (insn : Insn) (number other : ℕ)
    → operands_of insn ≡ aimed_operands number operands
    → form_fault (op_of insn) (aimed_operands other operands) (cond_of insn) (unit_of insn) ≡ None
aimed_fine (ToBlock old) insn number other e = aimed insn number other e
aimed_fine (Three a b d) insn number other e = subst
    (λ (o : Operands). form_fault (op_of insn) o (cond_of insn) (unit_of insn) ≡ None) e insn.well_formed
aimed_fine (ConstantFirst k a d) insn number other e = subst
    (λ (o : Operands). form_fault (op_of insn) o (cond_of insn) (unit_of insn) ≡ None) e insn.well_formed
aimed_fine (ConstantSecond a k d) insn number other e = subst
    (λ (o : Operands). form_fault (op_of insn) o (cond_of insn) (unit_of insn) ≡ None) e insn.well_formed
aimed_fine (Two a d) insn number other e = subst
    (λ (o : Operands). form_fault (op_of insn) o (cond_of insn) (unit_of insn) ≡ None) e insn.well_formed
aimed_fine (Field source left right destination) insn number other e = subst
    (λ (o : Operands). form_fault (op_of insn) o (cond_of insn) (unit_of insn) ≡ None) e insn.well_formed
aimed_fine (Constant k d) insn number other e = subst
    (λ (o : Operands). form_fault (op_of insn) o (cond_of insn) (unit_of insn) ≡ None) e insn.well_formed
aimed_fine (Access register base form offset) insn number other e = subst
    (λ (o : Operands). form_fault (op_of insn) o (cond_of insn) (unit_of insn) ≡ None) e insn.well_formed
aimed_fine (Register a) insn number other e = subst
    (λ (o : Operands). form_fault (op_of insn) o (cond_of insn) (unit_of insn) ≡ None) e insn.well_formed

pub unaimed : (operands : Operands) (number : ℕ) → names_block operands ≡ false
    → aimed_operands number operands ≡ operands
unaimed (ToBlock old) number plain = absurd (false≢true (sym plain))
unaimed (Three a b d) number plain = refl
unaimed (ConstantFirst k a d) number plain = refl
unaimed (ConstantSecond a k d) number plain = refl
unaimed (Two a d) number plain = refl
unaimed (Field source left right destination) number plain = refl
unaimed (Constant k d) number plain = refl
unaimed (Access register base form offset) number plain = refl
unaimed (Register a) number plain = refl
