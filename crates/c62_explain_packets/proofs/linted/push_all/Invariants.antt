use Rattle.std.proofs.Common.{◌≡◌, ◌++◌, drop}
use Rattle.std.specs.List.{flat_map}
use Rattle.c62_explain_packets.specs.Remarks.{placed_line}
use Rattle.c62_explain_packets.proofs.linted.push_all.Given as goal

-- with the lines of the others it is the whole
abbrev pub invariant-loop-placed : goal.invariant-loop-placed
invariant-loop-placed l =
    l.out.items ++ flat_map (placed_line l.name) (drop l.placed-index l.faults)
    ≡ l.fn.out.items ++ flat_map (placed_line l.name) l.faults
