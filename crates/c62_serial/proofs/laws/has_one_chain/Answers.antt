use Rattle.std.proofs.Common.{length}
use Rattle.c62_serial.specs.Chain.{serial_blocks}
use Rattle.c62_serial.proofs.ChainLemmas.{one_chain, serial_determined}
use Rattle.c62_serial.proofs.laws.has_one_chain.Goals as goal

pub returns : goal.returns
returns c = λ program opening limit sound one other h k. one_chain (length program) (serial_blocks program) opening
    limit one other (serial_determined program) sound h k
