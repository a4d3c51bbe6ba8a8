use Rattle.c62_answer.proofs.ReadBack.{is_read_back}
use Rattle.c62_answer.proofs.laws.what_is_packed_is_read_back.Goals as goal

pub returns : goal.returns
returns c = is_read_back
