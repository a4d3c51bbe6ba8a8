use Rattle.c62_rows.proofs.OneAnswer.{one_answer}
use Rattle.c62_rows.proofs.laws.texts_have_one_answer.Goals as goal

pub returns : goal.returns
returns c = one_answer
