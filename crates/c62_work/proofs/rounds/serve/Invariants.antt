use Rattle.std.proofs.Common.{◌≡◌}
use mathlib.Core.List.{IsPrefix}
use Rattle.c62_work.specs.Worker.{AddsPlacings}
use Rattle.c62_work.proofs.rounds.serve.Given as goal

abbrev pub invariant-loop-round : goal.invariant-loop-round
invariant-loop-round g l = (l.viewer.desk ≡ l.desk.name) × IsPrefix l.fn.viewer.entries l.viewer.entries
    × IsPrefix l.fn.desk.board.journal l.desk.board.journal
    × AddsPlacings l.side l._round l.fn.desk.board.journal l.desk.board.journal
