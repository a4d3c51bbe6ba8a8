use Rattle.c62_reach.proofs.LawLemmas.{are_whole}
use Rattle.c62_reach.proofs.laws.what_is_named_is_taken.Goals as goal

pub returns : goal.returns
returns c = are_whole
