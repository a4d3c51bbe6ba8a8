use Rattle.c62_exec_back.proofs.Spaced.{spaced_flies}
use Rattle.c62_exec_back.proofs.laws.spaced_blocks_fly.Goals as goal

pub returns : goal.returns
returns c = spaced_flies
