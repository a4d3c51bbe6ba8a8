use Rattle.std.proofs.Common.{◌≡◌, ◌++◌, drop}
use Rattle.std.specs.Prelude.{string_bytes}
use Rattle.c62_show.specs.Summary.{heads_from, summary}
use Rattle.c62_show.proofs.alone.summary.Given as goal

abbrev pub invariant-loop-each : goal.invariant-loop-each
invariant-loop-each l = (string_bytes l.out ++ heads_from l.number (drop l.each-index l.shown) ≡ summary l.shown)
    × (l.number ≡ l.each-index)
