use Rattle.std.proofs.Common.{◌-◌, ◌≡◌, ◌≤◌, length}
use Rattle.c62_pipe.proofs.Running.{Running}
use Rattle.c62_traced.proofs.Packets.{log_to}
use Rattle.c62_traced.proofs.block.run_told.Given as goal

-- up to the instruction that is issued next
abbrev pub invariant-loop-placed : goal.invariant-loop-placed
invariant-loop-placed g l = record {
  running : Running l.block.placed l.fn.state.machine l.cycle l.placed-index l.pipe l.state.machine l.exit l.state.room;
  within : l.cycle ≤ l.length;
  told : g.T.Watch.tells l.fn.watch l.watch (log_to l.first l.block.placed l.fn.state.machine l.cycle l.placed-index);
}

abbrev pub invariant-loop-cycle : goal.invariant-loop-cycle
invariant-loop-cycle g l = record {
  running : Running l.block.placed l.fn.state.machine l.cycle l.placed-index l.pipe l.state.machine l.exit l.state.room;
  within : l.cycle ≤ l.start;
  now : l.start ≡ l.placed.cycle;
  told : g.T.Watch.tells l.fn.watch l.watch (log_to l.first l.block.placed l.fn.state.machine l.cycle l.placed-index);
}

abbrev pub decreases-loop-cycle : goal.decreases-loop-cycle
decreases-loop-cycle g l = l.start - l.cycle

-- up to the end of the block
abbrev pub invariant-loop-cycle-2 : goal.invariant-loop-cycle-2
invariant-loop-cycle-2 g l = record {
  running : Running l.block.placed l.fn.state.machine l.cycle (length l.block.placed) l.pipe l.state.machine l.exit
      l.state.room;
  within : l.cycle ≤ l.length;
  told : g.T.Watch.tells l.fn.watch l.watch
      (log_to l.first l.block.placed l.fn.state.machine l.cycle (length l.block.placed));
}

abbrev pub decreases-loop-cycle-2 : goal.decreases-loop-cycle-2
decreases-loop-cycle-2 g l = l.length - l.cycle
