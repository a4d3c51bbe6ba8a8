use Rattle.c62_meaning.proofs.OneByOne.{runs_one_by_one}
use Rattle.c62_meaning.proofs.laws.lands_one_by_one.Goals as goal

pub returns : goal.returns
returns c = runs_one_by_one
