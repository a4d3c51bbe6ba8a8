use Rattle.c62_adopt_line.proofs.ListedLines.{instruction_reads}
use Rattle.c62_adopt_line.proofs.laws.listed_instructions_read_as_they_are.Goals as goal

pub returns : goal.returns
returns c = instruction_reads
