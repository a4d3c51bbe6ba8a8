use Rattle.c62_loop.proofs.Exact.{pipelined_for_all_trips}
use Rattle.c62_loop.proofs.laws.pipelined_for_all_trips.Goals as goal

pub returns : goal.returns
returns c = pipelined_for_all_trips
