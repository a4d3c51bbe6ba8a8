use Rattle.std.proofs.Common.{◌≡◌, ◌+◌, ◌≤◌, length}
use Rattle.c62_listing_reader.specs.declared.line.Above.TheVariants.{Start}
use Rattle.c62_listing_reader.specs.Text.{lines_in}
use Rattle.c62_listing_reader.specs.Said.{labels_of, aim_by, no_drafts}
use Rattle.c62_listing_reader.specs.Faults.{read_lines}
use Rattle.c62_listing_reader.specs.Reading.{drafts_of, entries_of}
use Rattle.c62_listing_reader.proofs.FineBlocks.{IsGoing}
use Rattle.c62_listing_reader.proofs.reader.read_blocks.Given as goal

abbrev pub invariant-loop-cut : goal.invariant-loop-cut
invariant-loop-cut l = record {
  lines : read_lines l.isa (labels_of (entries_of l.names)) (aim_by (entries_of l.names)) l.number (drafts_of l.blocks)
      l.above (lines_in l.rest)
      ≡ read_lines l.isa (labels_of (entries_of l.names)) (aim_by (entries_of l.names)) 1 no_drafts Start
      (lines_in l.names.text.now);
  going : IsGoing (drafts_of l.blocks) l.above;
  bound : l.number + length l.rest ≤ length l.names.text.now + 1;
}

abbrev pub decreases-loop-cut : goal.decreases-loop-cut
decreases-loop-cut l = length l.rest
