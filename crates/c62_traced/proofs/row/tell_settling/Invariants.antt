use Rattle.std.proofs.Common.{◌+◌, ◌-◌, ◌≤◌}
use Rattle.c62_traced.specs.Row.{settling_log}
use Rattle.c62_traced.proofs.Passing.{TellsRest}
use Rattle.c62_traced.proofs.row.tell_settling.Given as goal

abbrev pub invariant-loop-cycle : goal.invariant-loop-cycle
invariant-loop-cycle g l = record {
  told : TellsRest g.T.Watch.tells l.fn.watch l.watch (settling_log l.cycle (l.first + 4 - l.cycle) l.pipe.slots)
      (settling_log l.first 4 l.pipe.slots);
  from : l.first ≤ l.cycle;
  to : l.cycle ≤ l.first + 4;
}

abbrev pub decreases-loop-cycle : goal.decreases-loop-cycle
decreases-loop-cycle g l = l.first + 4 - l.cycle
