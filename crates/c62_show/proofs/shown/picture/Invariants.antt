use Rattle.std.proofs.Common.{◌≡◌, ◌++◌, drop}
use Rattle.std.specs.Prelude.{string_bytes}
use Rattle.c62_show.specs.Picture.{blocks_from, picture}
use Rattle.c62_show.proofs.shown.picture.Given as goal

abbrev pub invariant-loop-each : goal.invariant-loop-each
invariant-loop-each l =
    (string_bytes l.out ++ blocks_from l.widths l.number (drop l.each-index l.shown) ≡ picture l.shown)
    × (l.number ≡ l.each-index)
