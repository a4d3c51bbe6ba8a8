use Rattle.c62_depend.proofs.DirectLists.{direct_followers_are}
use Rattle.c62_depend.proofs.laws.has_followers.Goals as goal

pub returns : goal.returns
returns c = direct_followers_are
