-- The events of packet blocks, one after the other (docs/TRACE.md, "Events"). Cycles count on from block to block.
use Rattle.std.specs.Prelude.{◌≡◌, ℕ, ◌+◌, List, [], ◌∷◌, ◌++◌}
use Rattle.c62_serial.specs.declared.serial.Exit.{Exit}
use Rattle.c62_serial.specs.declared.chain.Chain.{Chain}
use Rattle.c62_serial.specs.State.{Machine}
use Rattle.c62_serial.specs.Serial.{Ran}
use Rattle.c62_packet.specs.Packed.{Packed}
use Rattle.c62_pipe.specs.Chain.{Does, RunsPackets, block_of}
use Rattle.c62_trace.specs.Event.{Entry}
use Rattle.c62_traced.specs.Trace.{behind, log_of}

-- a block means this, and these are its events where it begins in a cycle
pub record IsBlockLog (block : Packed) (start : ℕ) (opening final : Machine) (exit : Exit) (log : List Entry) : Type 0 where
  pub does : Does block opening final exit
  pub is : log ≡ log_of (behind start) block.placed opening does.did block.cycles

-- from this machine and cycle on the blocks of these numbers, one after the other, lead to that machine, and these are their events
abbrev pub LeadOn : List Packed → Machine → (start : ℕ) → List ℕ → (final : Machine) → List Entry → Type 0
LeadOn packets machine start [] final log = (final ≡ machine) × (log ≡ [])
LeadOn packets machine start (number ∷ numbers) final log =
    (ran : Ran) × (does : Does (block_of packets number) machine ran.machine ran.exit)
    × (others : List Entry) × LeadOn packets ran.machine (start + (block_of packets number).cycles) numbers final others
    × (log ≡ log_of (behind start) (block_of packets number).placed machine does.did (block_of packets number).cycles ++ others)

-- Packets run so, and these are the events of their blocks.
pub record IsChainLog (packets : List Packed) (opening : Machine) (limit : ℕ) (chain : Chain) (cycles : ℕ) (final : Machine) (log : List Entry) : Type 0 where
  pub runs : RunsPackets packets opening limit chain cycles final
  pub leads : LeadOn packets opening 0 runs.standing.numbers final log
