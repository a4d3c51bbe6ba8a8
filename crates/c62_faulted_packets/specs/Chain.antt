-- The faults of a run of packet blocks, one after the other (docs/REPORT.md, "Chains").
use Rattle.std.specs.Prelude.{◌≡◌, ℕ, List, [], ◌∷◌, ◌++◌}
use Rattle.c62_serial.specs.declared.serial.Exit.{Exit}
use Rattle.c62_serial.specs.State.{Machine}
use Rattle.c62_serial.specs.Serial.{Ran}
use Rattle.c62_serial.specs.Chain.{Standing}
use Rattle.c62_packet.specs.Packed.{Packed}
use Rattle.c62_pipe.specs.Chain.{Does, IsPacketChain, block_of}
use Rattle.c62_faulted.specs.declared.fault.Fault.{Fault}
use Rattle.c62_faulted.specs.Faulted.{with_faults}
use Rattle.c62_faulted_packets.specs.Done.{faults_done}

-- a block means this, and of each line of it that is new the first fault is told
pub record RunsNoted (block : Packed) (opening final : Machine) (exit : Exit) (before told : List Fault) : Type 0 where
  pub does : Does block opening final exit
  pub noted : told ≡ with_faults before (faults_done does.did block.placed)

-- from this machine the blocks of these numbers, one after the other, lead to that one, and these faults come on the way
abbrev pub FaultOn : List Packed → Machine → List ℕ → (final : Machine) → List Fault → Type 0
FaultOn packets machine [] final faults = (final ≡ machine) × (faults ≡ [])
FaultOn packets machine (number ∷ numbers) final faults =
    (ran : Ran) × (does : Does (block_of packets number) machine ran.machine ran.exit)
    × (others : List Fault) × FaultOn packets ran.machine numbers final others
    × (faults ≡ faults_done does.did (block_of packets number).placed ++ others)

-- The first fault of each line of a run of packets under a limit, in the order in which they come.
pub record FindsPacketFaults (packets : List Packed) (opening : Machine) (limit : ℕ) (told : List Fault) : Type 0 where
  pub standing : Standing
  pub whole : IsPacketChain packets opening limit standing
  pub faults : List Fault
  pub come : FaultOn packets opening standing.numbers standing.machine faults
  pub first : told ≡ with_faults [] faults
