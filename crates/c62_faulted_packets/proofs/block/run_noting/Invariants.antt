use Rattle.std.proofs.Common.{◌-◌, ◌≡◌, ◌≤◌, length}
use Rattle.c62_pipe.proofs.Running.{Running}
use Rattle.c62_faulted_packets.proofs.Blocks.{IsNotedTo}
use Rattle.c62_faulted_packets.proofs.block.run_noting.Given as goal

-- up to the instruction that is issued next
abbrev pub invariant-loop-placed : goal.invariant-loop-placed
invariant-loop-placed l = record {
  running : Running l.block.placed l.fn.state.machine l.cycle l.placed-index l.pipe l.state.machine l.exit l.state.room;
  within : l.cycle ≤ l.length;
  noted : IsNotedTo l.block.placed l.fn.state.machine l.placed-index l.fn.faults.items l.faults.items;
}

abbrev pub invariant-loop-cycle : goal.invariant-loop-cycle
invariant-loop-cycle l = record {
  running : Running l.block.placed l.fn.state.machine l.cycle l.placed-index l.pipe l.state.machine l.exit l.state.room;
  within : l.cycle ≤ l.start;
  now : l.start ≡ l.placed.cycle;
}

abbrev pub decreases-loop-cycle : goal.decreases-loop-cycle
decreases-loop-cycle l = l.start - l.cycle

-- up to the end of the block
abbrev pub invariant-loop-cycle-2 : goal.invariant-loop-cycle-2
invariant-loop-cycle-2 l = record {
  running : Running l.block.placed l.fn.state.machine l.cycle (length l.block.placed) l.pipe l.state.machine l.exit
      l.state.room;
  within : l.cycle ≤ l.length;
  noted : IsNotedTo l.block.placed l.fn.state.machine (length l.block.placed) l.fn.faults.items l.faults.items;
}

abbrev pub decreases-loop-cycle-2 : goal.decreases-loop-cycle-2
decreases-loop-cycle-2 l = l.length - l.cycle
