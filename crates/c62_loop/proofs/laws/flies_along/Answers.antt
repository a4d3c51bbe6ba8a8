use Rattle.c62_loop.proofs.Along.{flies_along}
use Rattle.c62_loop.proofs.laws.flies_along.Goals as goal

pub returns : goal.returns
returns c = flies_along
