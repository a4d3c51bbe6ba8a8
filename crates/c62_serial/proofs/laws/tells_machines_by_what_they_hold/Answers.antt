use Rattle.c62_serial.proofs.MachineLemmas.{same_machine}
use Rattle.c62_serial.proofs.laws.tells_machines_by_what_they_hold.Goals as goal

pub returns : goal.returns
returns c = same_machine
