use Rattle.std.proofs.Common.{◌≡◌, drop}
use Rattle.c62_grid.specs.Widths.{widths_with}
use Rattle.c62_pipeline.proofs.kernel.widened.Given as goal

abbrev pub invariant-loop-placed : goal.invariant-loop-placed
invariant-loop-placed l =
    widths_with l.widths (drop l.placed-index l.row.insns.items) ≡ widths_with l.fn.widths l.row.insns.items
