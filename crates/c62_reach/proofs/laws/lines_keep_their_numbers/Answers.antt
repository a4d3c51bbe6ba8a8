use Rattle.c62_reach.proofs.LineLaws.{keeps_lines}
use Rattle.c62_reach.proofs.laws.lines_keep_their_numbers.Goals as goal

pub returns : goal.returns
returns c = keeps_lines
