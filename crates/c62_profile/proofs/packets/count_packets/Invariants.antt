use Rattle.std.proofs.Common.{◌-◌, length}
use Rattle.c62_serial.specs.Chain.{position_at}
use Rattle.c62_pipe.specs.Chain.{packet_blocks}
use Rattle.c62_profile.specs.Visits.{cycles_each}
use Rattle.c62_profile.proofs.Turns.{Turn}
use Rattle.c62_profile.proofs.packets.count_packets.Given as goal

abbrev pub invariant-loop-number : goal.invariant-loop-number
invariant-loop-number l =
    Turn (length l.packets) (packet_blocks l.packets) (cycles_each l.packets) l.fn.state.machine l.state.machine
    (position_at (length l.packets) l.number) l.tally.blocks l.tally.taken l.tally.visits.items l.limit

abbrev pub decreases-loop-number : goal.decreases-loop-number
decreases-loop-number l = l.limit - l.tally.blocks
