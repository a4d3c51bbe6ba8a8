use Rattle.c62_op.proofs.SideLemmas.{takes_on_side}
use Rattle.c62_insn.proofs.laws.stands_on_one_side.Goals as goal

pub returns : goal.returns
returns c = λ insn unit side e t. takes_on_side insn.op insn.operands unit side e t
