use Rattle.c62_adopt_line.proofs.SerialLines.{reads_as_serial}
use Rattle.c62_adopt_line.proofs.laws.serial_lines_read_as_they_are.Goals as goal

pub returns : goal.returns
returns c = reads_as_serial
