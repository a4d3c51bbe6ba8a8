use Rattle.std.proofs.Common.{◌≡◌, ◌≤◌, ◌+◌, length}
use Rattle.c62_read.specs.Text.{lines_of}
use Rattle.c62_reach.specs.Part.{parts_of}
use Rattle.c62_reach.specs.PartRead.{IsYoung, parts_at}
use Rattle.c62_reach.proofs.part.read_parts.Given as goal

abbrev pub invariant-loop-line : goal.invariant-loop-line
invariant-loop-line l = record {
  so_far : parts_at l.isa l.reader (lines_of l.rest) ≡ parts_of l.isa (lines_of l.text);
  young : IsYoung l.reader.last;
  few : l.reader.files + length l.rest ≤ length l.text;
}

abbrev pub decreases-loop-line : goal.decreases-loop-line
decreases-loop-line l = length l.rest
