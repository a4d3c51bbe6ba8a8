use Rattle.std.proofs.Common.{length}
use Rattle.c62_adopt_cut.proofs.ReadLemmas.{IsReadSoFar}
use Rattle.c62_adopt_cut.proofs.text.read_lines.Given as goal

abbrev pub invariant-loop-line : goal.invariant-loop-line
invariant-loop-line l = IsReadSoFar l.isa l.reader l.number l.rest l.text

abbrev pub decreases-loop-line : goal.decreases-loop-line
decreases-loop-line l = length l.rest
