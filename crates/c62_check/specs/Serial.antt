-- Packets that are checked to be the same run as their program (docs/CHECK.md).
use Rattle.std.specs.Prelude.{ℕ, List, true}
use Rattle.c62_read.specs.Block.{Serial}
use Rattle.c62_serial.specs.declared.chain.Chain.{Chain}
use Rattle.c62_serial.specs.State.{Machine, IsSound}
use Rattle.c62_serial.specs.Chain.{RunsProgram}
use Rattle.c62_packet.specs.Packed.{Packed}
use Rattle.c62_packet.specs.Alike.{AreAlike}
use Rattle.c62_meaning.specs.Alike.{AreSameButFaults}
use Rattle.c62_pipe.specs.Alike.{Places, HaveFaulted}
use Rattle.c62_pipe.specs.Chain.{ArePacked, RunsPackets}
use Rattle.c62_check.specs.Checked.{IsChecked}

-- Two runs from one machine leave the same registers and memory, and the lines that joined the faulted ones are those of
-- the same instructions: in the first run as `lined` has their lines, in the second as `packets` has them.
pub record EndAlike (lined packets : List Packed) (opening final left : Machine) : Type 0 where
  pub machine : AreSameButFaults final left
  pub places : Places
  pub faulted : HaveFaulted lined places opening final
  pub others_faulted : HaveFaulted packets places opening left

-- under a limit the chain of the packets is that of the program, and ends alike
pub record RunAsProgram (program : List Serial) (lined packets : List Packed) (opening : Machine) (limit : ℕ) : Type 0 where
  pub packed : (chain : Chain) (final : Machine) → RunsProgram program opening limit chain final
      → (cycles : ℕ) × (left : Machine) × RunsPackets packets opening limit chain cycles left × EndAlike lined packets opening final left
  pub serial : (chain : Chain) (cycles : ℕ) (left : Machine) → RunsPackets packets opening limit chain cycles left
      → (final : Machine) × RunsProgram program opening limit chain final × EndAlike lined packets opening final left

-- The packets with the lines of the program's instructions in place of their own are its packets, and so those of the
-- listing run as it does, from every sound machine and under every limit.
pub record AreSerialPackets (program : List Serial) (packets : List Packed) : Type 0 where
  pub lined : List Packed
  pub alike : AreAlike packets lined
  pub are_packed : ArePacked program lined
  pub run : (opening : Machine) (limit : ℕ) → IsSound opening → RunAsProgram program lined packets opening limit

-- so are packets that are checked to be the same
abbrev pub CheckedAreSerial : List Serial → List Packed → List ℕ → Type 0
CheckedAreSerial program packets text = IsChecked program packets text true → AreSerialPackets program packets
