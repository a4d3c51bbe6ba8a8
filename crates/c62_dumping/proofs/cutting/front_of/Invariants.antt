use Rattle.std.proofs.Common.{◌≡◌, ◌≤◌, drop}
use Rattle.c62_dumping.specs.Cut.{front_of}
use Rattle.c62_dumping.proofs.cutting.front_of.Given as goal

abbrev pub invariant-loop-count : goal.invariant-loop-count
invariant-loop-count l = (front_of l.front (drop l.count-index l.counts) ≡ front_of l.total l.counts)
    × (l.front ≤ l.total)
