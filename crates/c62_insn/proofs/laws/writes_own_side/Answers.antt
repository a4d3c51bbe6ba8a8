use Rattle.c62_op.proofs.KindLemmas.{writes-own}
use Rattle.c62_insn.proofs.laws.writes_own_side.Goals as goal

pub returns : goal.returns
returns c = λ insn unit taken no. writes-own insn.op insn.operands unit taken no
