use Rattle.c62_adopt_cut.proofs.OverLemmas.{blocks_are_over}
use Rattle.c62_adopt_cut.proofs.laws.blocks_are_over.Goals as goal

pub returns : goal.returns
returns c = blocks_are_over
