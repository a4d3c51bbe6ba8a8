use Rattle.c62_answer.proofs.AdoptedBack.{is_adopted_back}
use Rattle.c62_answer.proofs.laws.what_is_packed_is_adopted_as_itself.Goals as goal

pub returns : goal.returns
returns c = is_adopted_back
