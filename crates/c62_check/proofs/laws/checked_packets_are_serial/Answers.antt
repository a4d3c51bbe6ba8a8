use Rattle.c62_check.proofs.Serially.{checked_are_serial}
use Rattle.c62_check.proofs.laws.checked_packets_are_serial.Goals as goal

pub returns : goal.returns
returns c = checked_are_serial
