use Rattle.c62_meaning.proofs.CutLandings.{landed_cuts}
use Rattle.c62_meaning.proofs.laws.landed_cuts.Goals as goal

pub returns : goal.returns
returns c = landed_cuts
