use Rattle.c62_check_whole.proofs.Whole.{checked_loops_are_serial}
use Rattle.c62_check_whole.proofs.laws.checked_loops_are_serial.Goals as goal

pub returns : goal.returns
returns c = checked_loops_are_serial
