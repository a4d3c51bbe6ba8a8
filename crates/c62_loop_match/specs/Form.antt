-- Steps of a counter and branches that test it, told by their form (docs/CHECK.md, "Pipelined loops").
use Rattle.std.specs.Prelude.{ℕ, pos, negsuc, int_le, Bool, true, false, ◌==◌, ◌&&◌, not, if◌then◌else◌, Option, Some, None}
use Rattle.std.specs.List.{list_all}
use Rattle.c62_op.specs.declared.register.Reg.{Reg}
use Rattle.c62_op.specs.declared.register.Cond.{Cond as Condition}
use Rattle.c62_op.specs.declared.operands.Op.{Op}
use Rattle.c62_op.specs.declared.operands.Op.TheVariants.{B as Branch, Add, Sub}
use Rattle.c62_op.specs.declared.operands.Operands.{Operands}
use Rattle.c62_op.specs.declared.operands.Operands.TheVariants.{ConstantFirst, ConstantSecond, Block}
use Rattle.c62_op.specs.Shape.{is_branch}
use Rattle.c62_op.specs.Takes.{same_reg}
use Rattle.c62_insn.specs.declared.insn.Insn.{Insn}
use Rattle.c62_insn.specs.Insn.{op_of, operands_of, cond_of}
use Rattle.c62_read.specs.declared.block.SerialInsn.{SerialInsn}
use Rattle.c62_loop.specs.Counter.{constant_in, steps_in, steps_on, size_of, touches}
use Rattle.c62_loop.specs.Loop.{Region}

-- ---- conditions

-- it runs exactly while the counter isn't 0
abbrev pub is_guarded : Reg → Option Condition → Bool
is_guarded counter None = false
is_guarded counter (Some cond) = same_reg cond.reg counter && not cond.negated

-- it runs while the counter isn't 0
abbrev pub runs_above_zero : Reg → Option Condition → Bool
runs_above_zero counter None = true
runs_above_zero counter (Some cond) = is_guarded counter (Some cond)

-- ---- steps

-- it takes a constant from 1 to 31 off the register: SUB q,k,q or ADD -k,q,q
abbrev pub lowers : Reg → Op → Operands → Bool
lowers counter Sub (ConstantSecond from k to) = same_reg from counter && (same_reg to counter && (int_le (pos 1) k && int_le k (pos 31)))
lowers counter Add (ConstantFirst k from to) = same_reg from counter && (same_reg to counter && (int_le (negsuc 30) k && int_le k (negsuc 0)))
lowers counter op operands = false

abbrev pub is_step : Reg → Insn → Bool
is_step counter insn = runs_above_zero counter (cond_of insn) && lowers counter (op_of insn) (operands_of insn)

-- a step that takes one, and does nothing where the counter is 0
abbrev pub stops : Reg → Insn → Bool
stops counter insn = is_guarded counter (cond_of insn) && (constant_in (operands_of insn) == 1)

-- by how much an instruction lowers the counter, and 0 where it doesn't write it
abbrev pub step_of : Reg → SerialInsn → ℕ
step_of counter entry = if steps_on counter entry then size_of entry else 0

-- ---- tests

abbrev pub goes_to : ℕ → Op → Operands → Bool
goes_to number Branch (Block label) = label == number
goes_to number op operands = false

-- it branches to the label of this number exactly while the counter isn't 0
abbrev pub is_test : Reg → ℕ → Insn → Bool
is_test counter number insn = is_guarded counter (cond_of insn) && goes_to number (op_of insn) (operands_of insn)

-- ---- all

-- an instruction that writes the counter is a step, another that reads it a test, and any other no branch
abbrev pub counts : Reg → ℕ → SerialInsn → Bool
counts counter number entry =
    if steps_on counter entry then is_step counter entry.insn
    else (if touches counter entry then is_test counter number entry.insn else not (is_branch (op_of entry.insn)))

-- none above the label is a branch, all from there on count, and of these the block's lower the counter by one, and no others
abbrev pub is_counted_loop : Region → Bool
is_counted_loop region =
    list_all (λ entry. not (is_branch (op_of entry.insn))) region.before
    && (list_all (counts region.counter region.number) region.body
    && (list_all (counts region.counter region.number) region.behind
    && ((steps_in region.counter region.body == 1) && (steps_in region.counter region.behind == 0))))
