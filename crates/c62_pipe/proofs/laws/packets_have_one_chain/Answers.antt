use Rattle.std.proofs.Common.{length}
use Rattle.c62_serial.proofs.ChainLemmas.{one_chain}
use Rattle.c62_pipe.specs.Chain.{packet_blocks}
use Rattle.c62_pipe.proofs.Chains.{packets_determined}
use Rattle.c62_pipe.proofs.laws.packets_have_one_chain.Goals as goal

pub returns : goal.returns
returns c = λ packets opening limit sound one other h k. one_chain (length packets) (packet_blocks packets) opening
    limit one other (packets_determined packets) sound h k
