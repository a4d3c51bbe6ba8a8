use Rattle.c62_line.proofs.CommentLines.{star_nothing}
use Rattle.c62_line.proofs.laws.star_lines_say_nothing.Goals as goal

pub returns : goal.returns
returns c = star_nothing
