use Rattle.c62_meaning.proofs.CutLandings.{drained_cuts}
use Rattle.c62_meaning.proofs.laws.drained_cuts.Goals as goal

pub returns : goal.returns
returns c = drained_cuts
