-- What packet meaning amounts to, as laws above its definition.
use Rattle.std.specs.Prelude.{◌≡◌, ◌↔◌, ℕ, ◌≤ℤ◌, ◌+ℤ◌, ℤ, pos, List, length, map, Contains, slice_get, Some, IsTrue}
use Rattle.c62_op.specs.declared.register.Reg.{Reg}
use Rattle.c62_insn.specs.declared.insn.Insn.{Insn}
use Rattle.c62_insn.specs.Insn.{IsSameInsn}
use Rattle.c62_rules.specs.Dependence.{Bounds}
use Rattle.c62_rules.specs.Length.{length_of}
use Rattle.c62_read.specs.declared.block.SerialInsn.{SerialInsn}
use Rattle.c62_read.specs.Block.{branch_last, operations}
use Rattle.c62_serial.specs.State.{Machine, IsSound}
use Rattle.c62_serial.specs.Effect.{act_of}
use Rattle.c62_serial.specs.Serial.{Ran, serial}
use Rattle.c62_packet.specs.declared.placed.Placed.{Placed}
use Rattle.c62_packet.specs.Packed.{issues_of}
use Rattle.c62_meaning.specs.Meaning.{IsMeaning}

-- ---- one meaning

-- every block of packets has a meaning, and no two
pub record HasOneMeaning (block : List Placed) (cycles : ℕ) (opening : Machine) : Type 0 where
  pub ran : Ran
  pub is : IsMeaning block cycles opening ran
  pub only : (other : Ran) → IsMeaning block cycles opening other → other ≡ ran

-- ---- packets are serial

-- both do the same where memory begins at one address, and registers have these words and memory these bytes
abbrev pub ActsAlike : Insn → Insn → Type 0
ActsAlike one other = (base : ℕ) (word : Reg → ℕ) (byte : ℕ → ℕ) → act_of one base word byte ≡ act_of other base word byte

-- an instruction of a block stands in its packets
pub record StandsAs (entry : SerialInsn) (p : Placed) : Type 0 where
  pub insn : IsSameInsn entry.insn p.insn
  pub line : entry.line ≡ p.line

-- Instructions, placed, in serial order. Each distance that is asked for is kept: by how much the cycle of number j must at
-- least exceed that of number i.
pub record IsPlacingBy (asked : List Insn → ℕ → ℕ → ℤ → Type 0) (insns : List SerialInsn) (placed : List Placed) : Type 0 where
  pub count : length placed ≡ length insns
  pub stands : (i : ℕ) (entry : SerialInsn) (p : Placed) → slice_get insns i ≡ Some entry → slice_get placed i ≡ Some p → StandsAs entry p
  pub keeps : (i j : ℕ) (p q : Placed) (bound : ℤ) → slice_get placed i ≡ Some p → slice_get placed j ≡ Some q
      → asked (map (λ entry. entry.insn) insns) i j bound → (pos p.cycle +ℤ bound) ≤ℤ pos q.cycle

-- packets hold instructions so placed, in any order
pub record IsPackedBy (asked : List Insn → ℕ → ℕ → ℤ → Type 0) (insns : List SerialInsn) (block : List Placed) : Type 0 where
  pub placed : List Placed
  pub placing : IsPlacingBy asked insns placed
  pub members : (p : Placed) → Contains block p ↔ Contains placed p

-- of the instructions of a block all bounds are asked
abbrev pub IsPlacing : List SerialInsn → List Placed → Type 0
IsPlacing insns placed = IsPlacingBy Bounds insns placed

-- a block of packets holds the instructions of a serial block
abbrev pub IsPacked : List SerialInsn → List Placed → Type 0
IsPacked insns block = IsPackedBy Bounds insns block

-- the cycles that a block of packets takes
abbrev pub cycles_of : List Placed → ℕ
cycles_of block = length_of (issues_of block)

-- from every sound machine the packets leave what the serial block leaves, and go on where it does
abbrev pub AreSerial : List SerialInsn → List Placed → Type 0
AreSerial insns block = (opening : Machine) (ran : Ran) → IsSound opening → IsMeaning block (cycles_of block) opening ran ↔ (ran ≡ serial insns opening)

-- packets of a block are serial, where they hold its instructions so that every dependence keeps its distance
abbrev pub PacketsAreSerial : List SerialInsn → List Placed → Type 0
PacketsAreSerial insns block = IsTrue (branch_last (operations insns)) → IsPacked insns block → AreSerial insns block
