use Rattle.std.proofs.Common.{ap}
use Rattle.c62_op.specs.declared.register.Letter.{Letter}
use Rattle.c62_op.specs.declared.register.Letter.TheVariants.{D}
use Rattle.c62_op.specs.Takes.{same_letter}
use Rattle.c62_op.proofs.FormLemmas.{uncrossed_on_d}
use Rattle.c62_insn.proofs.laws.crosses_not_to_d.Goals as goal

pub returns : goal.returns
returns c = λ insn unit is taken. uncrossed_on_d insn.op insn.operands unit taken
    (ap (λ (letter : Letter). same_letter letter D) is)
