use Rattle.c62_rules.proofs.Ranges.{lies-at-range}
use Rattle.c62_rules.proofs.laws.accesses_lie_at_their_ranges.Goals as goal

pub returns : goal.returns
returns c = lies-at-range
