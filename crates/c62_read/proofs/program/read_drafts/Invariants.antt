use Rattle.c62_read.proofs.Common.{◌≡◌, ◌+◌, ◌++◌, ◌≤◌, length, map, lines_of, labels_of, all_drafts, asked_of}
use Rattle.c62_read.proofs.Common.{drafts_of, first_line, missed}
use Rattle.c62_read.proofs.Common.{own_labels, unless_missed}
use Rattle.c62_read.specs.Walk.{add_lines}
use Rattle.c62_read.specs.Reading.{text_read}
use Rattle.c62_read.proofs.program.read_drafts.Given as goal

abbrev pub invariant-loop-line : goal.invariant-loop-line
invariant-loop-line l = record {
  so_far : unless_missed (first_line (missed (labels_of (lines_of l.text)) (map asked_of l.jumps.items)))
      (add_lines l.isa (labels_of (lines_of l.text)) l.number (lines_of l.rest) (drafts_of l.reader))
      ≡ text_read l.isa l.text;
  labels : own_labels (all_drafts (drafts_of l.reader)) ++ labels_of (lines_of l.rest) ≡ labels_of (lines_of l.text);
  counted : l.number + length l.rest ≤ length l.text + 1;
}

abbrev pub decreases-loop-line : goal.decreases-loop-line
decreases-loop-line l = length l.rest
