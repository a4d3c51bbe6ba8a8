use Rattle.std.proofs.Common.{◌≡◌, ◌++◌, ◌+◌, ◌≤◌, length}
use Rattle.c62_read.specs.Text.{lines_of}
use Rattle.c62_markup.specs.Page.{page}
use Rattle.c62_page_loops.specs.Text.{lines_from}
use Rattle.c62_page_loops.proofs.text.push_lines.Given as goal

abbrev pub invariant-loop-line : goal.invariant-loop-line
invariant-loop-line l = record {
  pieces : l.out.items ++ page (lines_from l.written l.number (lines_of l.rest))
      ≡ l.fn.out.items ++ page (lines_from l.written 1 (lines_of l.text));
  small : l.number + length l.rest ≤ 1 + length l.text;
}

abbrev pub decreases-loop-line : goal.decreases-loop-line
decreases-loop-line l = length l.rest
