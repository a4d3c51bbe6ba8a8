use Rattle.c62_bound.proofs.Unique.{one_greatest, one_least_length}
use Rattle.c62_bound.proofs.laws.has_one_bound.Goals as goal

pub returns-clause-need : goal.returns-clause-need
returns-clause-need c = one_greatest

pub returns-clause-length : goal.returns-clause-length
returns-clause-length c = one_least_length
