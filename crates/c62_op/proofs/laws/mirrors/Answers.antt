use Rattle.c62_op.proofs.KindLemmas.{mirrored}
use Rattle.c62_op.proofs.laws.mirrors.Goals as goal

pub returns : goal.returns
returns c = mirrored
