use Rattle.std.proofs.Common.{◌≡◌, ◌++◌, drop}
use Rattle.std.specs.List.{flat_map}
use Rattle.c62_pipe.specs.declared.slot.Due.{Due}
use Rattle.c62_trace.specs.Line.{line_in, landed_text}
use Rattle.c62_trace.proofs.line.push_all_landed.Given as goal

abbrev pub invariant-loop-write : goal.invariant-loop-write
invariant-loop-write l =
    l.out.items ++ flat_map (λ (write : Due). line_in l.cycle (landed_text l.cycle write)) (drop l.write-index l.writes)
    ≡ l.fn.out.items ++ flat_map (λ (write : Due). line_in l.cycle (landed_text l.cycle write)) l.writes
