use Rattle.std.proofs.Common.{◌≡◌, ◌++◌, drop}
use Rattle.std.specs.List.{flat_map}
use Rattle.c62_json_lint.specs.Faults.{read_told}
use Rattle.c62_json_lint.proofs.packets.push_reads.Given as goal

-- with the objects of the others it is the whole
abbrev pub invariant-loop-read : goal.invariant-loop-read
invariant-loop-read l =
    (l.out.tokens ++ flat_map (read_told l.file) (drop l.read-index l.reads)
    ≡ l.fn.out.tokens ++ flat_map (read_told l.file) l.reads)
    × (l.out.before ≡ l.fn.out.before)
