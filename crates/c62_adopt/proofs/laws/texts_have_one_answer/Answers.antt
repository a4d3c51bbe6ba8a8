use Rattle.c62_adopt.proofs.RefusalLemmas.{one_answer}
use Rattle.c62_adopt.proofs.laws.texts_have_one_answer.Goals as goal

pub returns : goal.returns
returns c = one_answer
