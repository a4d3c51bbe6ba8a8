use Rattle.std.proofs.Common.{map, take}
use Rattle.c62_reach.specs.Index.{Indexes}
use Rattle.c62_reach.specs.PartRead.{part_read}
use Rattle.c62_reach.proofs.index.Index.new.Given as goal

abbrev pub invariant-loop-k : goal.invariant-loop-k
invariant-loop-k l = Indexes (map part_read (take l.k l.parts)) l.index
