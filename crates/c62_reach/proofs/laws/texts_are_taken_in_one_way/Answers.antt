use Rattle.c62_reach.proofs.LawLemmas.{is_one}
use Rattle.c62_reach.proofs.laws.texts_are_taken_in_one_way.Goals as goal

pub returns : goal.returns
returns c = is_one
