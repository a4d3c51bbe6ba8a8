use Rattle.c62_pipe.proofs.AlikeChains.{chain_alike}
use Rattle.c62_pipe.proofs.laws.packets_alike_run_alike.Goals as goal

pub returns : goal.returns
returns c = chain_alike
