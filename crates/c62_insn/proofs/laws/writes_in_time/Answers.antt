use Rattle.c62_insn.proofs.InsnLemmas.{timely_writes}
use Rattle.c62_insn.proofs.laws.writes_in_time.Goals as goal

pub returns : goal.returns
returns c = λ insn. timely_writes insn
