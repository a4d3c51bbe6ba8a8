use Rattle.std.proofs.Common.{◌-◌, length}
use Rattle.c62_serial.specs.Chain.{position_at}
use Rattle.c62_faulted_packets.proofs.Chains.{IsNoted}
use Rattle.c62_faulted_packets.proofs.chain.faults_of_packets.Given as goal

abbrev pub invariant-loop-number : goal.invariant-loop-number
invariant-loop-number l = IsNoted l.packets l.fn.state.machine l.state.machine (position_at (length l.packets) l.number)
    l.blocks l.limit l.faults.items

abbrev pub decreases-loop-number : goal.decreases-loop-number
decreases-loop-number l = l.limit - l.blocks
