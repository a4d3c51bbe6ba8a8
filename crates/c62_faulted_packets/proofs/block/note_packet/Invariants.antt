use Rattle.std.proofs.Common.{◌≡◌, drop}
use Rattle.c62_faulted.specs.Faulted.{with_faults}
use Rattle.c62_faulted_packets.specs.Done.{faults_at}
use Rattle.c62_faulted_packets.proofs.block.note_packet.Given as goal

abbrev pub invariant-loop-placed : goal.invariant-loop-placed
invariant-loop-placed l =
    with_faults l.faults.items (faults_at l.state.machine (drop l.placed-index l.insns))
    ≡ with_faults l.fn.faults.items (faults_at l.state.machine l.insns)
