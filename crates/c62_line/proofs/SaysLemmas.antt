-- What lines may say: no instruction but a jump has a block for its operand.
use Rattle.c62_line.proofs.Common.{◌≡◌, Bool, true, false, cond, List, Option, Some, None, Result, Ok, Err, arith, Op}
use Rattle.c62_line.proofs.Common.{Operands, Block, Insn, Cause}
use Rattle.c62_line.proofs.Common.{Mnemonic, Nop, WrittenUnit, Kind, Word, kinds_in, Says, Does, Jumps, is_storing}
use Rattle.c62_line.proofs.Common.{jumps_or_does, parts_read}
use Rattle.c62_line.proofs.Common.{target_of}
use Rattle.c62_op.specs.declared.register.Cond.{Cond as Condition}
use Rattle.c62_op.specs.declared.operands.Op.TheVariants.{B as Branch}
use Rattle.c62_insn.proofs.TakenLemmas.{kind_in}
use Rattle.c62_line.specs.Operand.{operands_of}
use Rattle.c62_line.specs.Mnemonic.{crossed_to_back, in_order, stands_for, with_kind}
use Rattle.c62_line.proofs.Common.{refl, ℤ, Reg, Three, ConstantSecond, Constant, Operation, cond_both, has_kind_in}
use Rattle.c62_line.proofs.Common.{constant_to_front, exchanged}
use Rattle.c62_insn.specs.declared.fault.FormFault.{FormFault}
use Rattle.c62_insn.specs.declared.fault.FormFault.TheVariants.{NoUnit}
use Rattle.c62_insn.specs.Fault.{fault_in}
use Rattle.c62_line.specs.Line.{is_mismarked, with_mark, formed}
use Rattle.c62_op.specs.Takes.{takes_in}
use Rattle.c62_op.specs.Units.{is_taken_in}
use Rattle.c62_op.proofs.CoreLemmas.{some_takes}
use Rattle.c62_insn.proofs.FaultLemmas.{faultless, some_unit}
use Rattle.c62_line.specs.Line.{parts_of, behind_unit, does, instruction_of, operands_written, pause_of, rest_says}
use Rattle.c62_line.specs.Line.{text_fault, unit_written}
use Rattle.c62_op.specs.declared.set.InstructionSet.{InstructionSet}

abbrev pub has_no_block : Operands → Bool
has_no_block (Block number) = false
has_no_block _ = true

-- ---- what is made of operands

abbrev free_made : Option (Op × Operands) → Bool
free_made None = true
free_made (Some found) = has_no_block found.1

crossed_free : (turned : Option Op) (op : Op) (a b d : Reg) → has_no_block (crossed_to_back turned op a b d).1 ≡ true
crossed_free turned op a b d = grind arith

front_free : (turned : Option Op) (op : Op) (a : Reg) (k : ℤ) (d : Reg)
    → has_no_block (constant_to_front turned op a k d).1 ≡ true
front_free turned op a k d = grind arith

order_free : (op : Op) (operands : Operands) → has_no_block operands ≡ true
    → has_no_block (in_order op operands).1 ≡ true
unfolding in_order
order_free op (Three a b d) free = crossed_free (exchanged op) op a b d
order_free op (ConstantSecond a k d) free = front_free (exchanged op) op a k d
order_free op (Constant k d) free = refl
order_free op operands free = free

-- what is read, if something is, has no block
abbrev IsFree : Option Operands → Type 0
IsFree None = Unit {0}
IsFree (Some operands) = has_no_block operands ≡ true

read_free : (isa : InstructionSet) (store : Bool) (kinds : List Kind) → IsFree (operands_of isa store kinds)
unfolding operands_of
read_free isa store kinds = grind arith

kind_free : (isa : InstructionSet) (op : Op) (operands : Operands) → has_no_block operands ≡ true
    → free_made (with_kind isa (op, operands)) ≡ true
kind_free isa op operands free =
    cond_both (has_kind_in isa op operands) (Some (op, operands)) None (λ found. free_made found ≡ true) (λ _. free)
    (λ _. refl)

stands_free : (isa : InstructionSet) (mnemonic : Mnemonic) (written : Option WrittenUnit) (operands : Operands)
    → has_no_block operands ≡ true → free_made (operands_written isa mnemonic written (Some operands)) ≡ true
unfolding stands_for
stands_free isa (Operation op) written operands free =
    kind_free isa (in_order op operands).0 (in_order op operands).1 (order_free op operands free)
stands_free isa mnemonic written operands free = grind (arith, kind_free isa)

made_free : (isa : InstructionSet) (store : Bool) (mnemonic : Mnemonic) (written : Option WrittenUnit)
    (kinds : List Kind)
    → free_made (operands_written isa mnemonic written (operands_of isa store kinds)) ≡ true
made_free isa store mnemonic written kinds = from (operands_of isa store kinds) (read_free isa store kinds)
  where
    from : (read : Option Operands) → IsFree read → free_made (operands_written isa mnemonic written read) ≡ true
    from None free = refl
    from (Some operands) free = stands_free isa mnemonic written operands free

-- ---- what a line says

-- an instruction has no block for its operand, and a jump is a branch to block 0
abbrev pub IsProper : Says → Type 0
IsProper (Does parts) = has_no_block parts.operands ≡ true
IsProper (Jumps parts label) = (parts.op ≡ Branch) × (parts.operands ≡ Block 0)
IsProper _ = Unit {0}

abbrev OkProper : Result Says Cause → Type 0
OkProper (Ok says) = IsProper says
OkProper (Err cause) = Unit {0}

behind_proper : (isa : InstructionSet) (aim : Option Word) (mnemonic : Mnemonic) (cond : Option Condition)
    (written : Option WrittenUnit)
    (words : List Word)
    → OkProper (jumps_or_does isa aim mnemonic cond written words)
behind_proper isa aim mnemonic cond written words = grind
    (arith, made_free isa (is_storing mnemonic) mnemonic written (kinds_in isa words))

unit_proper : (isa : InstructionSet) (mnemonic : Mnemonic) (cond : Option Condition) (written : Option WrittenUnit)
    (words : List Word)
    → OkProper (behind_unit isa mnemonic cond written words)
unfolding behind_unit pause_of
unit_proper isa Nop cond written words = grind arith
unit_proper isa mnemonic cond written words = behind_proper isa (target_of mnemonic words) mnemonic cond written words

-- what a line says is proper
pub proper : (isa : InstructionSet) (words : List Word) (says : Says) → rest_says isa words ≡ Ok says → IsProper says
unfolding rest_says instruction_of
proper isa words says e = grind (arith, unit_proper isa)

unmarked : (fault : Option FormFault) (mismarked : Bool) → with_mark fault mismarked ≡ None → fault ≡ None
unmarked None mismarked none = refl
unmarked (Some NoUnit) true none = cc
unmarked (Some NoUnit) false none = cc
unmarked (Some fault) mismarked none = cc

pub made_says : (isa : InstructionSet) (insn : Insn) (op : Op) (operands : Operands) (cond : Option Condition)
    (written : Option WrittenUnit)
    → text_fault isa op operands cond written ≡ None → parts_of insn ≡ parts_read op operands cond written
    → does isa cond written (with_kind isa (op, operands)) ≡ Ok (Does (parts_of insn))
unfolding text_fault
made_says isa insn op operands cond written none are =
    rw (
      kind_in isa op operands cond (unit_written written)
          (unmarked (fault_in isa op operands cond (unit_written written)) (is_mismarked written operands) none),
      none,
      are,
    ) refl

-- ---- what is said is an instruction of the set

-- some unit takes the operands by a form of the set
abbrev pub AreTaken : InstructionSet → Says → Type 0
AreTaken isa (Does parts) = is_taken_in isa parts.op parts.operands ≡ true
AreTaken isa (Jumps parts label) = is_taken_in isa parts.op parts.operands ≡ true
AreTaken isa _ = Unit {0}

abbrev OkTaken : InstructionSet → Result Says Cause → Type 0
OkTaken isa (Ok says) = AreTaken isa says
OkTaken isa (Err cause) = Unit {0}

taken_by : (isa : InstructionSet) (op : Op) (operands : Operands) (cond : Option Condition)
    (written : Option WrittenUnit)
    → text_fault isa op operands cond written ≡ None → is_taken_in isa op operands ≡ true
unfolding text_fault
taken_by isa op operands cond written none =
    let found = some_unit isa op operands (unit_written written)
    (faultless isa op operands cond (unit_written written)
    (unmarked (fault_in isa op operands cond (unit_written written)) (is_mismarked written operands) none)).taken in
    some_takes (takes_in isa op operands) found.0 found.1

formed_taken : (isa : InstructionSet) (fault : Option FormFault) (says : Says) → (fault ≡ None → AreTaken isa says)
    → OkTaken isa (formed fault says)
formed_taken isa None says taken = taken refl
formed_taken isa (Some fault) says taken = tt

does_taken : (isa : InstructionSet) (cond : Option Condition) (written : Option WrittenUnit)
    (read : Option (Op × Operands))
    → OkTaken isa (does isa cond written read)
does_taken isa cond written None = tt
does_taken isa cond written (Some read) =
    formed_taken isa (text_fault isa read.0 read.1 cond written) (Does (parts_read read.0 read.1 cond written))
    (taken_by isa read.0 read.1 cond written)

aimed_taken : (isa : InstructionSet) (aim : Option Word) (mnemonic : Mnemonic) (cond : Option Condition)
    (written : Option WrittenUnit) (words : List Word)
    → OkTaken isa (jumps_or_does isa aim mnemonic cond written words)
aimed_taken isa (Some label) mnemonic cond written words =
    formed_taken isa (text_fault isa Branch (Block 0) cond written)
    (Jumps (parts_read Branch (Block 0) cond written) label)
    (taken_by isa Branch (Block 0) cond written)
aimed_taken isa None mnemonic cond written words =
    does_taken isa cond written
    (operands_written isa mnemonic written (operands_of isa (is_storing mnemonic) (kinds_in isa words)))

pause_taken : (isa : InstructionSet) (cond : Option Condition) (kinds : List Kind) → OkTaken isa (pause_of cond kinds)
unfolding pause_of
pause_taken isa cond kinds = grind arith

unit_taken : (isa : InstructionSet) (mnemonic : Mnemonic) (cond : Option Condition) (written : Option WrittenUnit)
    (words : List Word)
    → OkTaken isa (behind_unit isa mnemonic cond written words)
unfolding behind_unit
unit_taken isa Nop cond written words = pause_taken isa cond (kinds_in isa words)
unit_taken isa mnemonic cond written words = aimed_taken isa (target_of mnemonic words) mnemonic cond written words

-- what a line says is an instruction of the set
pub said_taken : (isa : InstructionSet) (words : List Word) (says : Says) → rest_says isa words ≡ Ok says
    → AreTaken isa says
unfolding rest_says instruction_of
said_taken isa words says e = grind (arith, unit_taken isa)
