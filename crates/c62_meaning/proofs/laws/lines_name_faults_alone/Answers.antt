use Rattle.c62_meaning.proofs.AlikeRuns.{mean_alike}
use Rattle.c62_meaning.proofs.laws.lines_name_faults_alone.Goals as goal

pub returns : goal.returns
returns c = mean_alike
