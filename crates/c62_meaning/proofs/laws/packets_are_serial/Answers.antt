use Rattle.c62_meaning.proofs.SerialPackets.{are_serial}
use Rattle.c62_meaning.proofs.laws.packets_are_serial.Goals as goal

pub returns : goal.returns
returns c = are_serial
