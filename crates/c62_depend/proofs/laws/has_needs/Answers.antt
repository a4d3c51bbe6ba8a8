use Rattle.c62_depend.proofs.DirectLists.{direct_needs_are}
use Rattle.c62_depend.proofs.laws.has_needs.Goals as goal

pub returns : goal.returns
returns c = direct_needs_are
