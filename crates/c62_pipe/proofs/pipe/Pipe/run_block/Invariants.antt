use Rattle.std.proofs.Common.{◌-◌, ◌≡◌, ◌<◌, ◌≤◌, ◌⊎◌, [], length}
use Rattle.c62_pipe.proofs.Running.{Running}
use Rattle.c62_pipe.proofs.pipe.Pipe.run_block.Given as goal

-- up to the instruction that is issued next
abbrev pub invariant-loop-placed : goal.invariant-loop-placed
invariant-loop-placed l = record {
  running : Running l.block.placed l.fn.state.machine l.cycle l.placed-index l.self l.state.machine l.exit l.state.room;
  within : l.cycle ≤ l.length;
  stored : (l.self.stores ≡ []) ⊎ (l.cycle < l.length);
}

abbrev pub invariant-loop-cycle : goal.invariant-loop-cycle
invariant-loop-cycle l = record {
  running : Running l.block.placed l.fn.state.machine l.cycle l.placed-index l.self l.state.machine l.exit l.state.room;
  within : l.cycle ≤ l.start;
  now : l.start ≡ l.placed.cycle;
}

abbrev pub decreases-loop-cycle : goal.decreases-loop-cycle
decreases-loop-cycle l = l.start - l.cycle

-- up to the end of the block
abbrev pub invariant-loop-cycle-2 : goal.invariant-loop-cycle-2
invariant-loop-cycle-2 l = record {
  running : Running l.block.placed l.fn.state.machine l.cycle (length l.block.placed) l.self l.state.machine l.exit
      l.state.room;
  within : l.cycle ≤ l.length;
  stored : (l.self.stores ≡ []) ⊎ (l.cycle < l.length);
}

abbrev pub decreases-loop-cycle-2 : goal.decreases-loop-cycle-2
decreases-loop-cycle-2 l = l.length - l.cycle
