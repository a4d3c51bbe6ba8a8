use Rattle.c62_insn.proofs.InsnLemmas.{has_written_unit}
use Rattle.c62_insn.proofs.laws.has_unit.Goals as goal

pub returns : goal.returns
returns c = λ insn. has_written_unit insn
