use Rattle.std.proofs.Common.{◌≡◌, ◌+◌}
use Rattle.c62_serial.specs.State.{line_capacity}
use Rattle.c62_exec.specs.Step.{on_way, row_goes}
use Rattle.c62_traced.specs.Row.{log_behind}
use Rattle.c62_traced.proofs.Passing.{TellsRest}
use Rattle.c62_traced.proofs.row.pass.Given as goal

abbrev pub invariant-loop-at : goal.invariant-loop-at
invariant-loop-at g l = record {
  goes : row_goes l.broken l.left l.cycle (on_way l.underway.pipe l.underway.turns l.state.machine)
      ≡ row_goes l.fn.broken l.idle l.start (on_way l.fn.underway.pipe l.fn.underway.turns l.fn.state.machine);
  told : TellsRest g.T.Watch.tells l.fn.watch l.watch
      (log_behind l.broken l.left l.cycle (on_way l.underway.pipe l.underway.turns l.state.machine))
      (log_behind l.fn.broken l.idle l.start (on_way l.fn.underway.pipe l.fn.underway.turns l.fn.state.machine));
  now : l.cycle + l.left ≡ l.start + l.idle;
  capacity : line_capacity l.state ≡ line_capacity l.fn.state;
}

abbrev pub decreases-loop-at : goal.decreases-loop-at
decreases-loop-at g l = l.left
