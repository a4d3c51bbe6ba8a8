-- A run that is counted is a run.
use Rattle.std.proofs.Common.{ℕ, List, refl}
use Rattle.c62_read.specs.Block.{Serial}
use Rattle.c62_serial.specs.declared.chain.Chain.{Chain}
use Rattle.c62_serial.specs.State.{Machine}
use Rattle.c62_serial.specs.Chain.{RunsProgram}
use Rattle.c62_packet.specs.Packed.{Packed}
use Rattle.c62_pipe.specs.Chain.{RunsPackets}
use Rattle.c62_profile.specs.declared.tally.Tally.{Tally}
use Rattle.c62_profile.specs.Visits.{CountsPackets, CountsProgram}

pub runs_program : (program : List Serial) (opening : Machine) (limit : ℕ) (chain : Chain) (final : Machine)
    (tally : Tally)
    → CountsProgram program opening limit chain final tally → RunsProgram program opening limit chain final
runs_program program opening limit chain final tally counts = record {
  standing = counts.standing;
  whole = counts.whole;
  told = counts.told;
  left = counts.left;
}

pub runs_packets : (packets : List Packed) (opening : Machine) (limit : ℕ) (chain : Chain) (final : Machine)
    (tally : Tally)
    → CountsPackets packets opening limit chain final tally → RunsPackets packets opening limit chain tally.taken final
runs_packets packets opening limit chain final tally counts = record {
  standing = counts.standing;
  whole = counts.whole;
  told = counts.told;
  taken = counts.taken;
  left = counts.left;
}
