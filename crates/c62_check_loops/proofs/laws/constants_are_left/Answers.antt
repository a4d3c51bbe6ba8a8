use Rattle.c62_check_loops.proofs.Constants.{constants_are_left}
use Rattle.c62_check_loops.proofs.laws.constants_are_left.Goals as goal

pub returns : goal.returns
returns c = constants_are_left
