use Rattle.std.proofs.Common.{◌≡◌, ◌++◌, ◌-◌}
use Rattle.std.specs.List.{flat_map, range_with_len}
use Rattle.c62_grid.specs.Landing.{landed_at, landed_between}
use Rattle.c62_grid.proofs.landing.landed_between.Given as goal

abbrev pub invariant-loop-cycle : goal.invariant-loop-cycle
invariant-loop-cycle l =
    l.found.items ++ flat_map (λ cycle. flat_map (landed_at cycle) l.landings)
    (range_with_len l.cycle (l.next - l.cycle))
    ≡ landed_between l.landings l.first l.next
