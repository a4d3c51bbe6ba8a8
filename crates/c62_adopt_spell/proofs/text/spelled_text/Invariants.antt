use Rattle.std.proofs.Common.{◌≡◌, ◌++◌, [], length}
use Rattle.c62_read.specs.Text.{lines_of}
use Rattle.c62_adopt_spell.specs.Local.{mark_of, none_above}
use Rattle.c62_adopt_spell.specs.Text.{spelled_lines, text_of}
use Rattle.c62_adopt_spell.proofs.text.spelled_text.Given as goal

abbrev pub invariant-loop-line : goal.invariant-loop-line
invariant-loop-line l =
    l.other.items ++ text_of
    (spelled_lines l.isa l.locals.mark.items l.names.items l.locals.counts.items (lines_of l.rest)) ≡ text_of
    (spelled_lines l.isa (mark_of l.text) [] none_above (lines_of l.text))

abbrev pub decreases-loop-line : goal.decreases-loop-line
decreases-loop-line l = length l.rest
