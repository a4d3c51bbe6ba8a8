use Rattle.c62_check_whole.proofs.Written.{written_is_serial}
use Rattle.c62_check_whole.proofs.laws.what_is_written_is_serial.Goals as goal

pub returns : goal.returns
returns c = written_is_serial
