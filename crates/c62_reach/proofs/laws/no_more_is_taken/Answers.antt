use Rattle.c62_reach.proofs.LawLemmas.{are_least}
use Rattle.c62_reach.proofs.laws.no_more_is_taken.Goals as goal

pub returns : goal.returns
returns c = are_least
