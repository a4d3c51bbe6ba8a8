use Rattle.c62_meaning.proofs.SerialPackets.{has_one_meaning}
use Rattle.c62_meaning.proofs.laws.has_one_meaning.Goals as goal

pub returns : goal.returns
returns c = has_one_meaning
