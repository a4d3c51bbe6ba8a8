use Rattle.c62_meaning.proofs.JoinedRuns.{runs_later}
use Rattle.c62_meaning.proofs.laws.runs_later.Goals as goal

pub returns : goal.returns
returns c = runs_later
