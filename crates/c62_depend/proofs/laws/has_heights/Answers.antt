use Rattle.c62_depend.proofs.Rules.{height_is}
use Rattle.c62_depend.proofs.laws.has_heights.Goals as goal

pub returns : goal.returns
returns c = height_is
