use Rattle.c62_show.proofs.Headed.{headed}
use Rattle.c62_show.proofs.laws.heads_alone_begin_blocks.Goals as goal

pub returns : goal.returns
returns c = headed
