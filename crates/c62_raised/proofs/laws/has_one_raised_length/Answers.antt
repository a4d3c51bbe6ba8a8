use Rattle.c62_raised.proofs.Unique.{one_raised_length}
use Rattle.c62_raised.proofs.laws.has_one_raised_length.Goals as goal

pub returns : goal.returns
returns c = one_raised_length
