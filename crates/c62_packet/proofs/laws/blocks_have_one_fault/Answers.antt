use Rattle.c62_packet.proofs.OneFault.{one-fault}
use Rattle.c62_packet.proofs.laws.blocks_have_one_fault.Goals as goal

pub returns : goal.returns
returns c = one-fault
