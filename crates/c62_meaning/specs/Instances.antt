-- Instances of a path: the instructions that a run takes, one after the other, over branches and loops, each issued at a
-- cycle of its own, whatever is in flight between them (docs/MACHINE.md, "Dependences").
use Rattle.std.specs.Prelude.{◌≡◌, ℕ, ℤ, List, take, slice_get, Some, IsTrue}
use Rattle.c62_insn.specs.declared.insn.Insn.{Insn}
use Rattle.c62_rules.specs.Dependence.{IsBound, Bounds}
use Rattle.c62_insn.specs.declared.effect.Access.{Access as MemoryAccess}
use Rattle.c62_rules.specs.Dependence.IsBound.{AfterStore, StoreAfterLoad, BeforeBranch}
use Rattle.c62_rules.specs.Disjoint.{IsCovered}
use Rattle.c62_read.specs.declared.block.SerialInsn.{SerialInsn}
use Rattle.c62_serial.specs.State.{Machine, IsSound}
use Rattle.c62_serial.specs.Memory.{is_good}
use Rattle.c62_serial.specs.Serial.{act_in, serial}
use Rattle.c62_packet.specs.declared.placed.Placed.{Placed}
use Rattle.c62_packet.specs.Packed.{AreDrained}
use Rattle.c62_meaning.specs.Packet.{Did, IsRun}
use Rattle.c62_meaning.specs.Meaning.{LeavesState}
use Rattle.c62_meaning.specs.Landed.{LandOneByOne}
use Rattle.c62_meaning.specs.Laws.{IsPackedBy}

-- cases 1 to 5, of registers and memory: any but that all has landed when a branch takes effect
abbrev pub IsOfData : {path : List Insn} {i j : ℕ} {p q : Insn} {bound : ℤ} → IsBound path i j p q bound → Type 0
IsOfData (BeforeBranch _ _) = ⊥
IsOfData _ = Unit {0}

-- what the cycle of number j must at least exceed that of number i by, for registers and memory
pub record DataBounds (path : List Insn) (i j : ℕ) (bound : ℤ) : Type 0 where
  pub bounds : Bounds path i j bound
  pub of_data : IsOfData bounds.applies

-- cases 4 and 5, of memory
abbrev pub IsOfMemory : {path : List Insn} {i j : ℕ} {p q : Insn} {bound : ℤ} → IsBound path i j p q bound → Type 0
IsOfMemory (AfterStore _ _ _ _) = Unit {0}
IsOfMemory (StoreAfterLoad _ _ _ _) = Unit {0}
IsOfMemory _ = ⊥

-- in the serial run of a path the instruction of this number runs, and loads or stores the byte at this address
pub record Accesses (path : List SerialInsn) (opening : Machine) (i address : ℕ) : Type 0 where
  pub entry : SerialInsn
  pub is : slice_get path i ≡ Some entry
  pub access : MemoryAccess
  pub accesses : (act_in (serial (take i path) opening).machine entry).access ≡ Some access
  pub good : IsTrue (is_good access.address access.size)
  pub covers : IsCovered access address

-- those of both numbers do so with one byte
abbrev pub Meet : List SerialInsn → Machine → ℕ → ℕ → Type 0
Meet path opening i j = (address : ℕ) × Accesses path opening i address × Accesses path opening j address

-- the same bounds, those of memory only where the two meet
pub record MetBounds (path : List SerialInsn) (opening : Machine) (insns : List Insn) (i j : ℕ) (bound : ℤ) : Type 0 where
  pub bounds : DataBounds insns i j bound
  pub met : IsOfMemory bounds.bounds.applies → Meet path opening i j

-- What is issued are the instructions of the path, at any cycles that keep the bounds of registers and memory between
-- any two. When a branch takes effect is nothing that is asked: the path is the one that was taken.
abbrev pub AreInstances : List SerialInsn → List Placed → Type 0
AreInstances path issued = IsPackedBy DataBounds path issued

-- the same from one machine, where accesses that don't meet need no order
abbrev pub AreInstancesFrom : Machine → List SerialInsn → List Placed → Type 0
AreInstancesFrom opening path issued = IsPackedBy (MetBounds path opening) path issued

-- what instances, placed in the order of the path, did and leave is what the path does and leaves serially
pub record AreAsSerial (path : List SerialInsn) (issued placed : List Placed) (opening : Machine) (did : Did) : Type 0 where
  -- each does what its instruction does after those before it
  pub acts : (i : ℕ) (entry : SerialInsn) (p : Placed) → slice_get path i ≡ Some entry → slice_get placed i ≡ Some p
      → did p ≡ act_in (serial (take i path) opening).machine entry
  -- no two write one register in one cycle
  pub one_by_one : LandOneByOne placed did
  -- and once all has landed, registers, memory and faulted lines are those of the serial run
  pub leaves : (cycles : ℕ) → AreDrained cycles issued → LeavesState issued cycles opening did (serial path opening).machine

-- so it is in every run of them
abbrev pub InstancesAreSerialFrom : Machine → List SerialInsn → List Placed → Type 0
InstancesAreSerialFrom opening path issued = (instances : AreInstancesFrom opening path issued) (did : Did) → IsSound opening → IsRun issued opening did
    → AreAsSerial path issued instances.placed opening did

-- and from every sound machine
abbrev pub InstancesAreSerial : List SerialInsn → List Placed → Type 0
InstancesAreSerial path issued = (instances : AreInstances path issued) (opening : Machine) (did : Did) → IsSound opening → IsRun issued opening did
    → AreAsSerial path issued instances.placed opening did
