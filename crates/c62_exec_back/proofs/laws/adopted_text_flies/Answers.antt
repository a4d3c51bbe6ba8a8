use Rattle.c62_exec_back.proofs.Flying.{adopted_flies}
use Rattle.c62_exec_back.proofs.laws.adopted_text_flies.Goals as goal

pub returns : goal.returns
returns c = adopted_flies
