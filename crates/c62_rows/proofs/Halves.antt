-- MVK and MVKLH take the halves of a word.
use Rattle.std.proofs.Common.{arith, ◌≡◌, ℤ, [], ◌∷◌, ◌++◌, map, Option, None, refl, ap, ◌∙◌, subst}
use Rattle.std.proofs.lemmas.Bool.Decides.{nat_tests}
use Rattle.c62_op.specs.declared.register.Reg.{Reg}
use Rattle.c62_op.specs.declared.register.Cond.{Cond as Condition}
use Rattle.c62_op.specs.declared.register.Unit.{Unit as FunctionalUnit}
use Rattle.c62_op.specs.declared.operands.Op.{Op}
use Rattle.c62_op.specs.declared.operands.Op.TheVariants.{Mvk, Mvklh}
use Rattle.c62_op.specs.declared.operands.Operands.{Operands}
use Rattle.c62_op.specs.declared.operands.Operands.TheVariants.{Three, ConstantFirst, ConstantSecond, Two, Field}
use Rattle.c62_op.specs.declared.operands.Operands.TheVariants.{Constant, Access, Block, Register}
use Rattle.c62_op.specs.Shape.{reads_of, crosses_to, data_path_of}
use Rattle.c62_insn.specs.declared.insn.Insn.{Insn}
use Rattle.c62_insn.specs.Insn.{op_of, operands_of, cond_of, unit_of}
use Rattle.c62_insn.specs.Fault.{form_fault}
use Rattle.c62_rules.specs.declared.resource.Resource.TheVariants.{OnUnit, ReadsOf}
use Rattle.c62_rules.specs.Resource.{taken_by, paths_taken, cross_path_taken, data_path_taken}
use Rattle.c62_rows.specs.Word.{half_of, half_operands}

formed : (op : Op) (word k : ℤ) (d : Reg) (cond : Option Condition) (unit : Option FunctionalUnit)
    → form_fault op (Constant k d) cond unit ≡ None
    → form_fault op (Constant (half_of op word k) d) cond unit ≡ None
formed Mvk word k d cond unit is = grind (arith, nat_tests, is)
formed Mvklh word k d cond unit is = grind (arith, nat_tests, is)
formed op word k d cond unit is = is

pub half_formed : (insn : Insn) (k word : ℤ) (d : Reg) → operands_of insn ≡ Constant k d
    → form_fault (op_of insn) (Constant (half_of (op_of insn) word k) d) (cond_of insn) (unit_of insn) ≡ None
half_formed insn k word d is =
    formed (op_of insn) word k d (cond_of insn) (unit_of insn)
    (subst (λ (operands : Operands). form_fault (op_of insn) operands (cond_of insn) (unit_of insn) ≡ None) is
    insn.well_formed)

-- ---- such a constant takes nothing of a cycle

same_reads : (op : Op) (word : ℤ) (operands : Operands)
    → reads_of op (half_operands op word operands) ≡ reads_of op operands
same_reads op word (Three a b d) = refl
same_reads op word (ConstantFirst k a d) = refl
same_reads op word (ConstantSecond a k d) = refl
same_reads op word (Two a d) = refl
same_reads op word (Field a k m d) = refl
same_reads op word (Constant k d) = refl
same_reads op word (Access register base form offset) = refl
same_reads op word (Block number) = refl
same_reads op word (Register target) = refl

same_crossing : (op : Op) (word : ℤ) (unit : FunctionalUnit) (operands : Operands)
    → crosses_to unit.side (half_operands op word operands) ≡ crosses_to unit.side operands
same_crossing op word unit (Three a b d) = refl
same_crossing op word unit (ConstantFirst k a d) = refl
same_crossing op word unit (ConstantSecond a k d) = refl
same_crossing op word unit (Two a d) = refl
same_crossing op word unit (Field a k m d) = refl
same_crossing op word unit (Constant k d) = refl
same_crossing op word unit (Access register base form offset) = refl
same_crossing op word unit (Block number) = refl
same_crossing op word unit (Register target) = refl

same_path : (op : Op) (word : ℤ) (operands : Operands)
    → data_path_of (half_operands op word operands) ≡ data_path_of operands
same_path op word (Three a b d) = refl
same_path op word (ConstantFirst k a d) = refl
same_path op word (ConstantSecond a k d) = refl
same_path op word (Two a d) = refl
same_path op word (Field a k m d) = refl
same_path op word (Constant k d) = refl
same_path op word (Access register base form offset) = refl
same_path op word (Block number) = refl
same_path op word (Register target) = refl

module _ (word : ℤ) (insn other : Insn) (unit : FunctionalUnit) (op : op_of other ≡ op_of insn)
    (operands : operands_of other ≡ half_operands (op_of insn) word (operands_of insn)) where
  crossing : crosses_to unit.side (operands_of other) ≡ crosses_to unit.side (operands_of insn)
  crossing = ap (crosses_to unit.side) operands ∙ same_crossing (op_of insn) word unit (operands_of insn)

  path : data_path_of (operands_of other) ≡ data_path_of (operands_of insn)
  path = ap data_path_of operands ∙ same_path (op_of insn) word (operands_of insn)

  reads : reads_of (op_of other) (operands_of other) ≡ reads_of (op_of insn) (operands_of insn)
  reads = (λ i. reads_of (op i) (operands i)) ∙ same_reads (op_of insn) word (operands_of insn)

  paths : paths_taken other unit ≡ paths_taken insn unit
  paths i = OnUnit unit ∷ [] ++ cross_path_taken unit.side (crossing i) ++ data_path_taken (path i)

  pub same_taken : taken_by other unit ≡ taken_by insn unit
  same_taken i = paths i ++ map ReadsOf (reads i)
