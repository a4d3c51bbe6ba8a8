use Rattle.c62_rules.proofs.DisjointAccesses.{disjoint-told}
use Rattle.c62_rules.proofs.laws.disjoint_is_told.Goals as goal

pub returns : goal.returns
returns c = disjoint-told
