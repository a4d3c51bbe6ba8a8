use Rattle.c62_row.proofs.Deciding.{row_decides}
use Rattle.c62_row.proofs.laws.rows_decide.Goals as goal

pub returns : goal.returns
returns c = row_decides
