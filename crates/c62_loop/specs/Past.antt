-- Instances of iterations past the last, which collapse an epilog: the serial loop lacks them (docs/CHECK.md, "Pipelined loops").
use Rattle.std.specs.Prelude.{◌≡◌, ◌⊎◌, ℕ, ◌+◌, ◌^◌, ◌<◌, Bool, true, false, List, ◌++◌, All, Contains, IsTrue, IsFalse}
use Rattle.c62_op.specs.declared.register.Reg.{Reg}
use Rattle.c62_op.specs.declared.operands.Operands.{Operands}
use Rattle.c62_op.specs.declared.operands.Operands.TheVariants.{Access}
use Rattle.c62_op.specs.Shape.{is_store}
use Rattle.c62_insn.specs.Insn.{op_of, operands_of, register_writes}
use Rattle.c62_read.specs.declared.block.SerialInsn.{SerialInsn}
use Rattle.c62_serial.specs.State.{Machine, IsSound, word_in}
use Rattle.c62_serial.specs.Serial.{serial}
use Rattle.c62_flight.specs.Cut.{IsCut}
use Rattle.c62_loop.specs.Loop.{Region, serial_path, trips_of, IsCountedLoop, Pipelined, last_row, cycles_of, IsPipelined, IsMatch}

-- a load or store
abbrev pub is_access : Operands → Bool
is_access (Access _ _ _ _) = true
is_access operands = false

-- memory is as it was, from where it begins on, and so are the registers that none of these instructions writes; the faulted lines are those that were, and lines of their accesses
pub record IsSameBut (past : List SerialInsn) (before after : Machine) : Type 0 where
  pub base : after.base ≡ before.base
  pub memory : after.memory ≡ before.memory
  pub words : (reg : Reg) → ((entry : SerialInsn) (delay : ℕ) → Contains past entry → Contains (register_writes entry.insn) (reg, delay) → ⊥) → word_in after reg ≡ word_in before reg
  pub kept : (line : ℕ) → Contains before.faults line → Contains after.faults line
  pub faults : (line : ℕ) → Contains after.faults line → Contains before.faults line ⊎ ((entry : SerialInsn) × Contains past entry × (entry.line ≡ line) × IsTrue (is_access (operands_of entry.insn)))

-- the region with these behind it
abbrev pub with_past : Region → List SerialInsn → Region
with_past region past = record region { behind = region.behind ++ past }

-- Where such instances are no stores, the packets leave what the serial loop leaves, but for the registers that they write and for faulted lines of theirs.
abbrev pub PipelinedPastTheEnd : Region → List SerialInsn → Pipelined → ℕ → ℕ → Type 0
PipelinedPastTheEnd region past loop trips passes = All (λ entry. IsFalse (is_store (op_of entry.insn))) past → IsCountedLoop (with_past region past) → IsPipelined loop
    → (opening : Machine) → IsMatch (with_past region past) loop trips passes opening → IsSound opening → trips_of region opening ≡ trips → trips < 2 ^ 32
    → (after : Machine) × IsSameBut past (serial (serial_path region trips) opening).machine after
    × ((more : ℕ) → IsCut loop.text loop.first (cycles_of loop passes + more) opening (last_row loop) (cycles_of loop passes) after)
