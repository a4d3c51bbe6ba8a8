use Rattle.std.proofs.Common.{◌≡◌, ◌++◌, drop}
use Rattle.std.specs.List.{flat_map}
use Rattle.c62_json_lint.specs.Faults.{finding_told}
use Rattle.c62_json_lint.proofs.packets.push_all.Given as goal

-- with the objects of the others it is the whole
abbrev pub invariant-loop-placed : goal.invariant-loop-placed
invariant-loop-placed l =
    (l.out.tokens ++ flat_map (finding_told l.file) (drop l.placed-index l.faults)
    ≡ l.fn.out.tokens ++ flat_map (finding_told l.file) l.faults)
    × (l.out.before ≡ l.fn.out.before)
