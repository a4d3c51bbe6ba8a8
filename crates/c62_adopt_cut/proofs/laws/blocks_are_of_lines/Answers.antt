use Rattle.c62_adopt_cut.proofs.TextHomes.{blocks_are_of_lines}
use Rattle.c62_adopt_cut.proofs.laws.blocks_are_of_lines.Goals as goal

pub returns : goal.returns
returns c = blocks_are_of_lines
