-- The constant to which a text sets the counter of a loop above it (docs/CHECK.md, "The command").
use Rattle.std.specs.Prelude.{◌≡◌, ℕ, ◌<◌, ◌^◌, pos, int_lt, List, fold, Option, Some, None, if◌then◌else◌}
use Rattle.c62_op.specs.declared.register.Reg.{Reg}
use Rattle.c62_op.specs.declared.register.Cond.{Cond as Condition}
use Rattle.c62_op.specs.declared.operands.Op.{Op}
use Rattle.c62_op.specs.declared.operands.Op.TheVariants.{Mvk}
use Rattle.c62_op.specs.declared.operands.Operands.{Operands}
use Rattle.c62_op.specs.declared.operands.Operands.TheVariants.{Constant}
use Rattle.c62_op.specs.Word.{word}
use Rattle.c62_insn.specs.Insn.{op_of, operands_of, cond_of}
use Rattle.c62_rules.specs.Exclusive.{writes_in}
use Rattle.c62_read.specs.declared.block.SerialInsn.{SerialInsn}
use Rattle.c62_read.specs.Block.{Serial}
use Rattle.c62_serial.specs.State.{Machine, IsSound, word_in}
use Rattle.c62_serial.specs.Serial.{serial}
use Rattle.c62_check_loop.specs.Region.{above, counter_of}

-- the constant of MVK, where no condition keeps it from running, and it isn't below 0
abbrev pub moved_by : Op → Operands → Option Condition → Option ℕ
moved_by Mvk (Constant k reg) None = if int_lt k (pos 0) then None else Some (word k)
moved_by op operands cond = None

-- what is known of a register behind an instruction, where this is known of it before
abbrev pub constant_after : Reg → Option ℕ → SerialInsn → Option ℕ
constant_after reg held entry =
    if writes_in reg (Some entry.insn) then moved_by (op_of entry.insn) (operands_of entry.insn) (cond_of entry.insn) else held

-- the constant that these leave in a register: that to which the last sets it that writes it
abbrev pub constant_of : Reg → List SerialInsn → Option ℕ
constant_of reg insns = fold (constant_after reg) None insns

-- ---- a loop

abbrev pub constant_by : Option Reg → List SerialInsn → Option ℕ
constant_by None insns = None
constant_by (Some counter) insns = constant_of counter insns

-- the trips of the loop of the block of this number, where what leads to it sets its counter to a constant
abbrev pub constant_at : List Serial → ℕ → Option ℕ
constant_at blocks number = constant_by (counter_of blocks number) (above blocks number)

-- ---- law

-- This constant is a word, and from every sound machine the register holds it after a serial run of these.
abbrev pub LeavesConstant : Reg → List SerialInsn → Type 0
LeavesConstant reg insns = (constant : ℕ) → constant_of reg insns ≡ Some constant
    → (constant < 2 ^ 32) × ((machine : Machine) → IsSound machine → word_in (serial insns machine).machine reg ≡ constant)
