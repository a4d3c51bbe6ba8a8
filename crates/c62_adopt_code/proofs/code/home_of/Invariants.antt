use Rattle.std.proofs.Common.{◌≡◌, length}
use Rattle.c62_read.specs.Text.{lines_of}
use Rattle.c62_adopt_code.specs.Code.{home_of, text_section}
use Rattle.c62_adopt_code.proofs.code.home_of.Given as goal

abbrev pub invariant-loop-line : goal.invariant-loop-line
invariant-loop-line l = home_of l.section (lines_of l.rest) ≡ home_of text_section (lines_of l.text)

abbrev pub decreases-loop-line : goal.decreases-loop-line
decreases-loop-line l = length l.rest
