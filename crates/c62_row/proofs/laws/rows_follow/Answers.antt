use Rattle.c62_row.proofs.Deciding.{row_is_empty, row_follows, row_is_left, row_stays}
use Rattle.c62_row.proofs.laws.rows_follow.Goals as goal

pub returns : goal.returns
returns c = record { empty = row_is_empty; added = row_follows; removed = row_is_left; others = row_stays }
