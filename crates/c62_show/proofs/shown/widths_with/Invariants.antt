use Rattle.std.proofs.Common.{◌≡◌, drop}
use Rattle.c62_grid.specs.Widths.{widths_with}
use Rattle.c62_show.proofs.shown.widths_with.Given as goal

abbrev pub invariant-loop-each : goal.invariant-loop-each
invariant-loop-each l = widths_with l.widths (drop l.each-index l.placed) ≡ widths_with l.fn.widths l.placed
