use Rattle.c62_read.proofs.Common.{◌≡◌, ◌+◌, ◌++◌, ◌≤◌, length, map, lines_of, drafts_of, no_drafts}
use Rattle.c62_lint.specs.Faults.{refusal_of}
use Rattle.c62_lint.specs.Walk.{walked_faults}
use Rattle.c62_lint.proofs.faults.line_faults.Given as goal

abbrev pub invariant-loop-line : goal.invariant-loop-line
invariant-loop-line l = record {
  so_far : map refusal_of l.faults.items ++ walked_faults l.isa l.labels l.number (lines_of l.rest) (drafts_of l.reader)
      ≡ walked_faults l.isa l.labels 1 (lines_of l.text) no_drafts;
  few : length l.faults.items ≤ l.most;
  counted : l.number + length l.rest ≤ length l.text + 1;
}

abbrev pub decreases-loop-line : goal.decreases-loop-line
decreases-loop-line l = length l.rest
