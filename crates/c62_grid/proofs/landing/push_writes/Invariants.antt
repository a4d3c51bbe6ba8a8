use Rattle.std.proofs.Common.{◌≡◌, ◌++◌, drop}
use Rattle.std.specs.List.{flat_map}
use Rattle.c62_grid.specs.Landing.{delayed}
use Rattle.c62_grid.proofs.landing.push_writes.Given as goal

abbrev pub invariant-loop-reg : goal.invariant-loop-reg
invariant-loop-reg l =
    l.landings.items ++ flat_map (delayed l.cycle) (drop l.reg-index l.writes) ≡ l.fn.landings.items ++ flat_map
    (delayed l.cycle) l.writes
