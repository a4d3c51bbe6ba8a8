-- A branch that ran is the last instruction of its block.
use Rattle.std.proofs.Common.{◌≡◌, ℕ, zero, suc, ◌+◌, ◌<◌, Bool, true, false, List, [], ◌∷◌, length, Some, refl, get_or}
use Rattle.std.proofs.Common.{take, arith}
use Rattle.std.specs.Prelude.{not, nat_le, if◌then◌else◌}
use Rattle.std.proofs.lemmas.Bool.{and_parts}
use Rattle.std.proofs.lemmas.List.{take_all}
use Rattle.std.proofs.lemmas.List.Sums.{fold_more}
use Rattle.c62_op.specs.declared.register.Unit.{Unit as FunctionalUnit}
use Rattle.c62_op.specs.declared.operands.Op.{Op}
use Rattle.c62_op.specs.declared.operands.Op.TheVariants.{B as Branch}
use Rattle.c62_op.specs.declared.operands.Operands.{Operands}
use Rattle.c62_op.specs.declared.operands.Operands.TheVariants.{Block, Register}
use Rattle.c62_insn.specs.declared.effect.Target.{Target}
use Rattle.c62_insn.specs.declared.insn.Insn.{Insn}
use Rattle.c62_op.specs.Takes.{takes}
use Rattle.c62_insn.specs.Insn.{op_of, operands_of}
use Rattle.c62_insn.specs.Effect.{target_of}
use Rattle.c62_insn.proofs.InsnLemmas.{has_unit}
use Rattle.c62_op.specs.declared.register.Reg.{Reg}
use Rattle.c62_read.specs.declared.block.SerialInsn.{SerialInsn}
use Rattle.c62_op.specs.Shape.{is_branch}
use Rattle.c62_read.specs.Block.{is_block, branch_last, operations}
use Rattle.c62_serial.specs.declared.serial.Exit.TheVariants.{Next}
use Rattle.c62_serial.specs.State.{Machine, word_in, byte_in}
use Rattle.c62_serial.specs.Serial.{serial, act_in, after_act, after_insn, exit_to}
use Rattle.c62_serial.specs.Effect.{act_of, act_on, no_act, runs, operand_values}
use Rattle.c62_read.specs.declared.limits.TheConstants.{MOST_INSTRUCTIONS}

takes_block : (op : Op) (number : ℕ) (u : FunctionalUnit) → takes op (Block number) u ≡ true → is_branch op ≡ true
takes_block Branch number u h = refl
takes_block _ number u h = cc

targets_branch : (op : Op) (operands : Operands) (u : FunctionalUnit) (reads : List ℕ) (target : Target)
    → takes op operands u ≡ true → target_of operands reads ≡ Some target → is_branch op ≡ true
targets_branch op (Block number) u reads target h t = takes_block op number u h
targets_branch Branch (Register reg) u reads target h t = refl
targets_branch _ (Register reg) u reads target h t = cc
targets_branch op _ u reads target h t = cc

-- an instruction that goes somewhere is a branch
pub goes_branch : (insn : Insn) (base : ℕ) (word : Reg → ℕ) (byte : ℕ → ℕ) (target : Target)
    → (act_of insn base word byte).target ≡ Some target → is_branch (op_of insn) ≡ true
goes_branch insn base word byte target h = either (runs word insn) h
  where
    either : (b : Bool) → (if b then act_on insn base (operand_values word insn) byte else no_act).target ≡ Some target
        → is_branch (op_of insn) ≡ true
    either true t = targets_branch (op_of insn) (operands_of insn) (has_unit insn).0 (operand_values word insn) target
        (has_unit insn).1 t
    either false t = cc

-- a branch is the last
pub branch_ends : (insns : List SerialInsn) (i : ℕ) (d : SerialInsn) → branch_last (operations insns) ≡ true
    → i < length insns
    → is_branch (op_of (get_or insns i d).insn) ≡ true → i + 1 ≡ length insns
branch_ends [] i d h l b = absurd (omega arith)
branch_ends (x ∷ []) i d h l b = omega arith
branch_ends (x ∷ y ∷ zs) zero d h l b = let e : not (is_branch (op_of x.insn)) ≡ true =
    (and_parts (not (is_branch (op_of x.insn))) (branch_last (operations (y ∷ zs))) h).0 in let f = rw b at e in cc
branch_ends (x ∷ y ∷ zs) (suc i) d h l b =
    let rest = branch_ends (y ∷ zs) i d
    (and_parts (not (is_branch (op_of x.insn))) (branch_last (operations (y ∷ zs))) h).1 (omega arith) b in
    omega arith

-- the run of a block up to a branch that ran is its whole run
pub ran_whole : (insns all : List SerialInsn) (opening machine next : Machine) (i : ℕ) (entry : SerialInsn)
    (target : Target)
    → all ≡ insns → is_block insns ≡ true → i < length all → entry ≡ get_or all i entry
    → serial (take i all) opening ≡ record { machine = machine; exit = Next }
    → next ≡ after_act entry.line (act_in machine entry) machine → (act_in machine entry).target ≡ Some target
    → serial insns opening ≡ record { machine = next; exit = exit_to target }
ran_whole insns all opening machine next i entry target e sound l found before moved goes =
    let block : branch_last (operations all) ≡ true = rw e
    (and_parts (nat_le (length insns) MOST_INSTRUCTIONS) (branch_last (operations insns)) sound).1 in
    let branch : is_branch (op_of (get_or all i entry).insn) ≡ true = rw (← found)
    (goes_branch entry.insn machine.base (word_in machine) (byte_in machine) target goes) in
    let last : i + 1 ≡ length all = branch_ends all i entry block l branch in
    let whole : take (i + 1) all ≡ all = take_all (i + 1) all (omega arith) in
    let more = fold_more after_insn (record { machine = opening; exit = Next }) all i entry l in
    rw (← e) (rw (whole, before, ← found, goes, ← moved) at more)
