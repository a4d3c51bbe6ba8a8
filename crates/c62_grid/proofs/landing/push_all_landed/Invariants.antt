use Rattle.std.proofs.Common.{◌≡◌, ◌++◌, drop}
use Rattle.std.specs.Prelude.{string_bytes}
use Rattle.std.specs.List.{flat_map}
use Rattle.c62_grid.specs.Landing.{landed_in_row}
use Rattle.c62_grid.proofs.landing.push_all_landed.Given as goal

abbrev pub invariant-loop-landing : goal.invariant-loop-landing
invariant-loop-landing l =
    string_bytes l.out ++ flat_map (landed_in_row l.cycle) (drop l.landing-index l.landings)
    ≡ string_bytes l.fn.out ++ flat_map (landed_in_row l.cycle) l.landings
