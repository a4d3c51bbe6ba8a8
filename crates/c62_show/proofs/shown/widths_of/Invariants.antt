use Rattle.std.proofs.Common.{◌≡◌, drop}
use Rattle.std.specs.Prelude.{fold}
use Rattle.c62_grid.specs.Widths.{widths_with}
use Rattle.c62_show.specs.Picture.{widths_of}
use Rattle.c62_show.proofs.shown.widths_of.Given as goal

abbrev pub invariant-loop-each : goal.invariant-loop-each
invariant-loop-each l = fold (λ widths each. widths_with widths each.packets.placed) l.widths
    (drop l.each-index l.shown) ≡ widths_of l.shown
