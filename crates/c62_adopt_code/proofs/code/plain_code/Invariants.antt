use Rattle.std.proofs.Common.{length}
use Rattle.c62_adopt_code.proofs.CodeLemmas.{IsCodedSoFar}
use Rattle.c62_adopt_code.proofs.code.plain_code.Given as goal

abbrev pub invariant-loop-line : goal.invariant-loop-line
invariant-loop-line l = IsCodedSoFar l.isa l.site l.number l.rest l.code.items l.text

abbrev pub decreases-loop-line : goal.decreases-loop-line
decreases-loop-line l = length l.rest
