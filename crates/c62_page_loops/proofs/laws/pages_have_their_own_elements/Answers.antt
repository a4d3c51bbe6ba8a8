use Rattle.c62_page_loops.proofs.Owned.{angles_are_the_same, own_is_the_same}
use Rattle.c62_page_loops.proofs.laws.pages_have_their_own_elements.Goals as goal

pub returns-clause-angles : goal.returns-clause-angles
returns-clause-angles c = angles_are_the_same

pub returns-clause-same : goal.returns-clause-same
returns-clause-same c = own_is_the_same
