use Rattle.std.proofs.Common.{◌≡◌, ◌++◌, drop}
use Rattle.std.specs.List.{flat_map}
use Rattle.c62_explain.specs.Placed.{placed_line}
use Rattle.c62_explain.proofs.placed.push_all_placed.Given as goal

-- with the lines of the others it is the whole
abbrev pub invariant-loop-placed : goal.invariant-loop-placed
invariant-loop-placed l =
    l.out.items ++ flat_map (placed_line l.name) (drop l.placed-index l.all)
    ≡ l.fn.out.items ++ flat_map (placed_line l.name) l.all
