use Rattle.std.proofs.Common.{◌≡◌, ◌+◌}
use Rattle.c62_serial.specs.State.{line_capacity}
use Rattle.c62_exec.specs.Step.{on_way, row_goes}
use Rattle.c62_exec.proofs.underway.Underway.pass.Given as goal

abbrev pub invariant-loop-broken : goal.invariant-loop-broken
invariant-loop-broken l = record {
  goes : row_goes l.broken l.left l.cycle (on_way l.self.pipe l.self.turns l.state.machine)
      ≡ row_goes l.fn.broken l.idle l.start (on_way l.fn.self.pipe l.fn.self.turns l.fn.state.machine);
  now : l.cycle + l.left ≡ l.start + l.idle;
  capacity : line_capacity l.state ≡ line_capacity l.fn.state;
}

abbrev pub decreases-loop-broken : goal.decreases-loop-broken
decreases-loop-broken l = l.left
