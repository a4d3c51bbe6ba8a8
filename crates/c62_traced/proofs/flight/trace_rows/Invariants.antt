use Rattle.std.proofs.Common.{◌≡◌, ◌+◌, ◌-◌, ◌*◌, ◌^◌, ◌≤◌, length}
use Rattle.c62_serial.specs.State.{line_capacity}
use Rattle.c62_flight.specs.Text.{At}
use Rattle.c62_rows.specs.Rows.{text_of}
use Rattle.c62_exec.specs.Step.{on_way}
use Rattle.c62_traced.proofs.Tracing.{IsTracedAt}
use Rattle.c62_traced.proofs.flight.trace_rows.Given as goal

abbrev pub invariant-loop-row : goal.invariant-loop-row
invariant-loop-row g l = record {
  traced : IsTracedAt g.T.Watch.tells (text_of l.rows) l.first l.limit l.fn.state.machine (At l.row) l.cycle
      (on_way l.underway.pipe l.underway.turns l.state.machine) l.fn.watch l.watch;
  capacity : length l.fn.state.machine.faults + 8 * (length l.rows.rows.items + 1) ≤ line_capacity l.state;
  row : l.row ≤ 2 ^ 32 + l.cycle;
  cycle : l.cycle ≤ l.most + 2 ^ 33;
  most : l.most ≡ l.limit;
}

abbrev pub decreases-loop-row : goal.decreases-loop-row
decreases-loop-row g l = l.most - l.cycle
