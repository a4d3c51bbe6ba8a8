use Rattle.c62_adopt_cut.proofs.FineLemmas.{blocks_are_fine}
use Rattle.c62_adopt_cut.proofs.laws.blocks_are_fine.Goals as goal

pub returns : goal.returns
returns c = blocks_are_fine
