use Rattle.c62_rules.proofs.Ranges.{small-offset}
use Rattle.c62_rules.proofs.laws.offsets_are_small.Goals as goal

pub returns : goal.returns
returns c = small-offset
