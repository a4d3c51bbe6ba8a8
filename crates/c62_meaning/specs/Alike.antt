-- What lines have to do with what packets mean: they are the names of faults, and nothing else (docs/MACHINE.md, "Memory").
use Rattle.std.specs.Prelude.{◌≡◌, ℕ, List, [], map}
use Rattle.c62_serial.specs.State.{Machine}
use Rattle.c62_serial.specs.Serial.{Ran}
use Rattle.c62_packet.specs.declared.placed.Placed.{Placed}
use Rattle.c62_packet.specs.Packed.{issues_of}
use Rattle.c62_meaning.specs.Packet.{Did}
use Rattle.c62_meaning.specs.Meaning.{IsMeaning}

abbrev pub without_faults : Machine → Machine
without_faults machine = record machine { faults = [] }

-- the same registers and memory; other lines may have faulted
abbrev pub AreSameButFaults : Machine → Machine → Type 0
AreSameButFaults one other = without_faults one ≡ without_faults other

-- one after the other the instructions of both blocks did the same, and left the same but for the lines that faulted
pub record LeaveTheSame (block others : List Placed) (did did' : Did) (ran ran' : Ran) : Type 0 where
  pub acts : map did block ≡ map did' others
  pub machine : AreSameButFaults ran.machine ran'.machine
  pub exit : ran.exit ≡ ran'.exit

-- so do blocks that have the same instructions in the same places, whatever the lines, from machines that are the same but for faults
abbrev pub MeanAlike : List Placed → List Placed → ℕ → Type 0
MeanAlike block others cycles = issues_of block ≡ issues_of others → (opening opening' : Machine) (ran ran' : Ran) → AreSameButFaults opening opening'
    → (one : IsMeaning block cycles opening ran) (other : IsMeaning others cycles opening' ran') → LeaveTheSame block others one.did other.did ran ran'
