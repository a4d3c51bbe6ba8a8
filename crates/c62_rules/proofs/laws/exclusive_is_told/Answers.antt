use Rattle.c62_rules.proofs.Exclusive.{exclusive-told}
use Rattle.c62_rules.proofs.laws.exclusive_is_told.Goals as goal

pub returns : goal.returns
returns c = exclusive-told
