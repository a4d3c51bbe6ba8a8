use Rattle.std.proofs.Common.{◌+◌, ◌*◌, length, map}
use Rattle.c62_reach.specs.PartRead.{part_read}
use Rattle.c62_reach.specs.Search.{found_of}
use Rattle.c62_reach.proofs.Graph.{unmarked}
use Rattle.c62_reach.proofs.SearchLemmas.{IsSearch}
use Rattle.c62_reach.proofs.search.reached_from.Given as goal

abbrev pub invariant-loop-j : goal.invariant-loop-j
invariant-loop-j l = IsSearch (map part_read l.parts) l.first (found_of l.search)

abbrev pub decreases-loop-j : goal.decreases-loop-j
decreases-loop-j l = 2 * unmarked l.search.marks.items + length l.search.waiting.items
