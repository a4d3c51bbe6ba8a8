use Rattle.c62_pipe.proofs.Chains.{run_alike}
use Rattle.c62_pipe.proofs.laws.packets_run_as_their_program.Goals as goal
use Rattle.std.proofs.Common.{arith}

pub returns : goal.returns
returns c = grind (arith, run_alike)
