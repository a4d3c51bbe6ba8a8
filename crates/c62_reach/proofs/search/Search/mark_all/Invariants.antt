use Rattle.std.proofs.Common.{◌≡◌, drop}
use Rattle.c62_reach.specs.Search.{all_marked, found_of}
use Rattle.c62_reach.proofs.search.Search.mark_all.Given as goal

abbrev pub invariant-loop-k : goal.invariant-loop-k
invariant-loop-k l = all_marked (drop l.k-index l.numbers) (found_of l.self) ≡ all_marked l.numbers (found_of l.fn.self)
