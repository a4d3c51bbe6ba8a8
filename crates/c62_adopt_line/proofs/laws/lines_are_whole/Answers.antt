use Rattle.c62_adopt_line.proofs.WholeLines.{line_whole}
use Rattle.c62_adopt_line.proofs.laws.lines_are_whole.Goals as goal

pub returns : goal.returns
returns c = line_whole
