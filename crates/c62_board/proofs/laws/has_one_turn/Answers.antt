use Rattle.c62_board.proofs.Turns.{one_turn}
use Rattle.c62_board.proofs.laws.has_one_turn.Goals as goal

pub returns : goal.returns
returns c = one_turn
