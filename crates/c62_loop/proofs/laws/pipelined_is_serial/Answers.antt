use Rattle.c62_loop.proofs.Pipelined.{pipelined_is_serial}
use Rattle.c62_loop.proofs.laws.pipelined_is_serial.Goals as goal

pub returns : goal.returns
returns c = pipelined_is_serial
