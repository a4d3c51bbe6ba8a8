use Rattle.c62_adopt.proofs.AnswerLemmas.{drains_nothing}
use Rattle.c62_adopt.proofs.laws.texts_that_stand_lack_nothing.Goals as goal

pub returns : goal.returns
returns c = drains_nothing
