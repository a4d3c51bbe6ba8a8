use Rattle.std.proofs.Common.{◌≡◌, drop}
use Rattle.std.specs.Prelude.{fold}
use Rattle.c62_grid.specs.Widths.{widths_with}
use Rattle.c62_pipeline.specs.Kernel.{widths_of}
use Rattle.c62_pipeline.proofs.kernel.widths_of.Given as goal

abbrev pub invariant-loop-row : goal.invariant-loop-row
invariant-loop-row l =
    fold (λ widths row. widths_with widths row.insns.items) l.widths (drop l.row-index l.rows) ≡ widths_of l.rows
