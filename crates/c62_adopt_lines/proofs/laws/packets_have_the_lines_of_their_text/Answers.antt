use Rattle.c62_adopt_lines.proofs.Lined.{have_their_lines}
use Rattle.c62_adopt_lines.proofs.laws.packets_have_the_lines_of_their_text.Goals as goal

pub returns : goal.returns
returns c = have_their_lines
