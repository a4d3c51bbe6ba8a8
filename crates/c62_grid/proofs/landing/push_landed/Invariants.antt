use Rattle.std.proofs.Common.{◌≡◌, ◌++◌, drop}
use Rattle.std.specs.List.{flat_map}
use Rattle.c62_grid.specs.Landing.{landed_at}
use Rattle.c62_grid.proofs.landing.push_landed.Given as goal

abbrev pub invariant-loop-landing : goal.invariant-loop-landing
invariant-loop-landing l =
    l.found.items ++ flat_map (landed_at l.cycle) (drop l.landing-index l.landings) ≡ l.fn.found.items ++ flat_map
    (landed_at l.cycle) l.landings
