-- A counter and the branches that test it stand apart from all else that a path does (docs/MACHINE.md, "Conditions").
use Rattle.std.specs.Prelude.{◌≡◌, ℕ, ◌+◌, ◌-◌, ◌^◌, ◌<◌, ◌≤◌, unsigned_abs, Bool, ◌==◌, ◌||◌, not, if◌then◌else◌, List, [], ◌∷◌, ◌⊎◌, filter, take, slice_get, Some, None, IsTrue, IsFalse, All}
use Rattle.c62_op.specs.declared.register.Reg.{Reg}
use Rattle.c62_op.specs.declared.operands.Operands.{Operands}
use Rattle.c62_op.specs.declared.operands.Operands.TheVariants.{ConstantFirst, ConstantSecond}
use Rattle.c62_op.specs.Shape.{is_branch}
use Rattle.c62_insn.specs.Insn.{op_of, operands_of, reads_register}
use Rattle.c62_insn.specs.declared.effect.Target.TheVariants.{Block as ToBlock}
use Rattle.c62_rules.specs.Exclusive.{writes_in}
use Rattle.c62_read.specs.declared.block.SerialInsn.{SerialInsn}
use Rattle.c62_serial.specs.State.{Machine, IsSound, word_in, with_word}
use Rattle.c62_serial.specs.Effect.{no_act, act_of}
use Rattle.c62_serial.specs.Serial.{serial}

-- ---- what counts

abbrev pub steps_on : Reg → SerialInsn → Bool
steps_on counter entry = writes_in counter (Some entry.insn)

-- the instruction writes the register, reads it, or tests it
abbrev pub touches : Reg → SerialInsn → Bool
touches counter entry = steps_on counter entry || reads_register entry.insn counter

-- by how much a step lowers the counter, its constant: SUB q,7,q or ADD -7,q,q
abbrev pub constant_in : Operands → ℕ
constant_in (ConstantSecond _ k _) = unsigned_abs k
constant_in (ConstantFirst k _ _) = unsigned_abs k
constant_in _ = 1

abbrev pub size_of : SerialInsn → ℕ
size_of entry = constant_in (operands_of entry.insn)

-- it takes as much off the counter, which is a word, where that is no less, and does nothing else
abbrev pub IsStep : Reg → SerialInsn → Type 0
IsStep counter entry = (base : ℕ) (word : Reg → ℕ) (byte : ℕ → ℕ) → size_of entry ≤ word counter → word counter < 2 ^ 32
    → act_of entry.insn base word byte ≡ record { writes = ((counter, 0), word counter - size_of entry) ∷ []; access = None; target = None }

-- it takes one, and does nothing where the counter is 0
pub record StopsAtZero (counter : Reg) (entry : SerialInsn) : Type 0 where
  pub one : size_of entry ≡ 1
  pub stops : (base : ℕ) (word : Reg → ℕ) (byte : ℕ → ℕ) → word counter ≡ 0 → act_of entry.insn base word byte ≡ no_act

-- it branches to the label of this number while the counter isn't 0, and does nothing else
abbrev pub IsTest : Reg → ℕ → SerialInsn → Type 0
IsTest counter number entry = (base : ℕ) (word : Reg → ℕ) (byte : ℕ → ℕ)
    → act_of entry.insn base word byte ≡ (if word counter == 0 then no_act else record { writes = []; access = None; target = Some (ToBlock number) })

-- An instruction that writes the counter is such a step, another that reads it is such a branch, and any other is no branch.
pub record IsCounted (counter : Reg) (number : ℕ) (entry : SerialInsn) : Type 0 where
  pub step : IsTrue (steps_on counter entry) → IsStep counter entry
  pub test : IsFalse (steps_on counter entry) → IsTrue (touches counter entry) → IsTest counter number entry
  pub other : IsFalse (touches counter entry) → IsFalse (is_branch (op_of entry.insn))

-- by how much the steps of a path lower the counter
abbrev pub steps_in : Reg → List SerialInsn → ℕ
steps_in counter [] = 0
steps_in counter (entry ∷ path) = if steps_on counter entry then size_of entry + steps_in counter path else steps_in counter path

-- Where the counter begins at this value, each step finds as much as it takes, or stops at 0.
abbrev pub CountsFrom : Reg → ℕ → List SerialInsn → Type 0
CountsFrom counter value path = (i : ℕ) (entry : SerialInsn) → slice_get path i ≡ Some entry → IsTrue (steps_on counter entry)
    → (steps_in counter (take i path) + size_of entry ≤ value) ⊎ StopsAtZero counter entry

-- the path without its counter and the branches that test it
abbrev pub work_of : Reg → List SerialInsn → List SerialInsn
work_of counter path = filter (λ entry. not (touches counter entry)) path

-- ---- law

-- A path leaves what its work leaves, but for the counter, which its steps lower, to 0 at the least.
abbrev pub CounterStandsApart : Reg → ℕ → List SerialInsn → Machine → Type 0
CounterStandsApart counter number path opening = All (IsCounted counter number) path → CountsFrom counter (word_in opening counter) path → IsSound opening
    → word_in opening counter < 2 ^ 32
    → (serial path opening).machine ≡ with_word counter (word_in opening counter - steps_in counter path) (serial (work_of counter path) opening).machine
