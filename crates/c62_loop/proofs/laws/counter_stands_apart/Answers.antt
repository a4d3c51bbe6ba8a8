use Rattle.c62_loop.proofs.Apart.{stands_apart}
use Rattle.c62_loop.proofs.laws.counter_stands_apart.Goals as goal

pub returns : goal.returns
returns c = stands_apart
