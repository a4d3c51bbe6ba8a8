use Rattle.c62_answer.proofs.OneParting.{one_parting}
use Rattle.c62_answer.proofs.laws.an_input_is_parted_once.Goals as goal

pub returns : goal.returns
returns c = one_parting
