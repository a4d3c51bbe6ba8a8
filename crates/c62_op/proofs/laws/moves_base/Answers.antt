use Rattle.c62_op.proofs.KindLemmas.{moves-base}
use Rattle.c62_op.proofs.laws.moves_base.Goals as goal

pub returns : goal.returns
returns c = moves-base
