-- A counted loop goes round as often as its counter says (docs/SERIAL_TEXT.md, "Labels and blocks").
use Rattle.std.specs.Prelude.{◌≡◌, ℕ, zero, suc, ◌+◌, ◌^◌, ◌<◌, List, [], ◌∷◌, ◌++◌, length, All, IsFalse}
use Rattle.c62_op.specs.declared.register.Reg.{Reg}
use Rattle.c62_op.specs.Shape.{is_branch}
use Rattle.c62_insn.specs.Insn.{op_of}
use Rattle.c62_read.specs.declared.block.SerialInsn.{SerialInsn}
use Rattle.c62_read.specs.Block.{Serial}
use Rattle.c62_serial.specs.State.{Machine, IsSound, word_in}
use Rattle.c62_serial.specs.Serial.{serial}
use Rattle.c62_serial.specs.Chain.{At, Leads, position_at, block_of, serial_blocks}
use Rattle.c62_loop.specs.Counter.{IsTest, IsCounted, steps_in}
use Rattle.c62_loop.specs.Loop.{rounds}

-- The block of this number lowers the counter by one, and ends with a branch to itself that tests it. None before is a branch.
pub record IsLoopBlock (program : List Serial) (number : ℕ) (counter : Reg) (body : List SerialInsn) (test : SerialInsn) : Type 0 where
  pub there : number < length program
  pub block : (block_of program number).insns ≡ body ++ (test ∷ [])
  pub counted : All (IsCounted counter number) body
  pub no_branch : All (λ entry. IsFalse (is_branch (op_of entry.insn))) body
  pub one_step : steps_in counter body ≡ 1
  pub tests : IsTest counter number test

abbrev pub repeated : ℕ → ℕ → List ℕ
repeated number zero = []
repeated number (suc trips) = number ∷ repeated number trips

-- From the start of the block the program's chain runs it once for each trip that the counter holds, and then goes on behind it with
-- what so many rounds leave.
abbrev pub GoesRound : List Serial → ℕ → Reg → List SerialInsn → SerialInsn → Type 0
GoesRound program number counter body test = IsLoopBlock program number counter body test → (trips : ℕ) (opening : Machine) → IsSound opening
    → word_in opening counter ≡ suc trips → suc trips < 2 ^ 32
    → Leads (length program) (serial_blocks program) opening (At number) (repeated number (suc trips)) (serial (rounds (body ++ (test ∷ [])) (suc trips)) opening).machine
    (position_at (length program) (number + 1))
