use Rattle.std.proofs.Common.{length}
use Rattle.c62_rows.specs.Read.{reading_of}
use Rattle.c62_rows.proofs.ReadLemmas.{IsReadSoFar}
use Rattle.c62_rows.proofs.text.read_lines.Given as goal

abbrev pub invariant-loop-line : goal.invariant-loop-line
invariant-loop-line l = IsReadSoFar l.isa (reading_of l.reader) l.number l.rest l.text

abbrev pub decreases-loop-line : goal.decreases-loop-line
decreases-loop-line l = length l.rest
