use Rattle.c62_meaning.proofs.JoinedRuns.{settles}
use Rattle.c62_meaning.proofs.laws.runs_settle.Goals as goal

pub returns : goal.returns
returns c = settles
