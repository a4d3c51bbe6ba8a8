use Rattle.c62_op.proofs.KindLemmas.{delay-of-kind}
use Rattle.c62_op.proofs.laws.has_delay_of_kind.Goals as goal

pub returns : goal.returns
returns c = delay-of-kind
