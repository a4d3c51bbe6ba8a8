use Rattle.c62_loop.proofs.Rounds.{goes_round}
use Rattle.c62_loop.proofs.laws.loops_go_round.Goals as goal

pub returns : goal.returns
returns c = goes_round
