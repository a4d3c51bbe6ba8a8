use Rattle.c62_loop.proofs.Past.{pipelined_past_the_end}
use Rattle.c62_loop.proofs.laws.pipelined_past_the_end.Goals as goal

pub returns : goal.returns
returns c = pipelined_past_the_end
