use Rattle.c62_meaning.proofs.Parts.{parts_run_in_turn}
use Rattle.c62_meaning.proofs.laws.parts_run_in_turn.Goals as goal

pub returns : goal.returns
returns c = parts_run_in_turn
