use Rattle.c62_check_loops.proofs.Done.{loops_do_the_same}
use Rattle.c62_check_loops.proofs.laws.loops_do_the_same.Goals as goal

pub returns : goal.returns
returns c = loops_do_the_same
