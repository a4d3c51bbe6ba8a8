use Rattle.c62_adopt_cut.proofs.NameLemmas.{blocks_are_named}
use Rattle.c62_adopt_cut.proofs.laws.blocks_are_named.Goals as goal

pub returns : goal.returns
returns c = blocks_are_named
