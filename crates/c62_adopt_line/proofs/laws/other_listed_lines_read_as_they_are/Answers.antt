use Rattle.c62_adopt_line.proofs.ListedLines.{empty_reads, label_reads, pause_reads}
use Rattle.c62_adopt_line.proofs.laws.other_listed_lines_read_as_they_are.Goals as goal

pub returns : goal.returns
returns c = record { pauses = pause_reads; labels = label_reads; empty = empty_reads }
