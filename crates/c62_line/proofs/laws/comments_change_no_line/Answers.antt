use Rattle.c62_line.proofs.CommentLines.{comment_nothing}
use Rattle.c62_line.proofs.laws.comments_change_no_line.Goals as goal

pub returns : goal.returns
returns c = comment_nothing
