use Rattle.std.proofs.Common.{◌≡◌, ◌++◌, drop}
use Rattle.std.specs.List.{flat_map}
use Rattle.c62_grid.specs.Grid.{issued_at}
use Rattle.c62_grid.proofs.grid.packet.Given as goal

abbrev pub invariant-loop-each : goal.invariant-loop-each
invariant-loop-each l = l.issued.items ++ flat_map (issued_at l.cycle) (drop l.each-index l.placed) ≡ flat_map
    (issued_at l.cycle) l.placed
