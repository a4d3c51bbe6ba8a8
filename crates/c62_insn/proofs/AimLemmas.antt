-- A branch may go to any block.
use Rattle.std.proofs.Common.{◌≡◌, ℕ, Option, Some, None}
use Rattle.c62_op.specs.declared.register.Cond.{Cond as Condition}
use Rattle.c62_op.specs.declared.register.Unit.{Unit as FunctionalUnit}
use Rattle.c62_op.specs.declared.operands.Op.{Op}
use Rattle.c62_op.specs.declared.operands.Op.TheVariants.{Add}
use Rattle.c62_op.specs.declared.operands.Operands.TheVariants.{Block}
use Rattle.c62_insn.specs.declared.insn.Insn.{Insn}
use Rattle.c62_insn.specs.Fault.{form_fault}
use Rattle.c62_insn.specs.Insn.{op_of, operands_of, cond_of, unit_of}

free : (op : Op) (k m : ℕ) (cond : Option Condition) → form_fault op (Block k) cond None ≡ None
    → form_fault op (Block m) cond None ≡ None
free Add k m cond h = h
free _ k m cond h = h

bound : (op : Op) (k m : ℕ) (cond : Option Condition) (unit : FunctionalUnit)
    → form_fault op (Block k) cond (Some unit) ≡ None
    → form_fault op (Block m) cond (Some unit) ≡ None
bound Add k m cond unit h = h
bound _ k m cond unit h = h

anywhere : (op : Op) (k m : ℕ) (cond : Option Condition) (unit : Option FunctionalUnit)
    → form_fault op (Block k) cond unit ≡ None
    → form_fault op (Block m) cond unit ≡ None
anywhere op k m cond None h = free op k m cond h
anywhere op k m cond (Some unit) h = bound op k m cond unit h

-- what goes to one block may go to any other
pub aimed : (insn : Insn) (k m : ℕ) → operands_of insn ≡ Block k
    → form_fault (op_of insn) (Block m) (cond_of insn) (unit_of insn) ≡ None
aimed insn k m is =
    let h : form_fault insn.op (Block k) insn.cond insn.unit ≡ None = rw is at insn.well_formed in
    anywhere insn.op k m insn.cond insn.unit h
