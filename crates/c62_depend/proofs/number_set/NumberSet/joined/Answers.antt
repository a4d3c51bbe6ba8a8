use Rattle.c62_depend.proofs.Common.{length, ◌≡◌}
use Rattle.std.proofs.Common.{rules}
use Rattle.c62_depend.proofs.NumberSets.{joined_numbers}
use Rattle.c62_depend.proofs.number_set.NumberSet.joined.Goals as goal

pub returns : goal.returns
returns c = λ k. joined_numbers c.args.self.words c.args.other.words k (search rules) (search rules)
