use Rattle.std.proofs.Common.{◌≡◌, ◌++◌, drop}
use Rattle.std.specs.List.{flat_map}
use Rattle.c62_grid.specs.Landing.{landings_by}
use Rattle.c62_grid.proofs.landing.landings_of.Given as goal

abbrev pub invariant-loop-each : goal.invariant-loop-each
invariant-loop-each l = l.landings.items ++ flat_map landings_by (drop l.each-index l.placed) ≡ flat_map landings_by
    l.placed
