use Rattle.c62_adopt_line.proofs.Comments.{comment_nothing}
use Rattle.c62_adopt_line.proofs.laws.comments_say_nothing.Goals as goal

pub returns : goal.returns
returns c = comment_nothing
