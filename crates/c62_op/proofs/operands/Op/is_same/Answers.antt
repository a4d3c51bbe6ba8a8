use Rattle.std.proofs.Common.{◌∙◌, sym}
use denote.Enum.Bare.{same_true, true_same}
use Rattle.c62_op.specs.contracts.operands.Op.{the_type}
use Rattle.c62_op.proofs.operands.Op.is_same.Goals as goal

pub returns : goal.returns
returns c = (
  λ yes. same_true the_type tt c.args.self c.args.other (sym c.eq.ensures ∙ yes),
  λ same. c.eq.ensures ∙ true_same the_type c.args.self c.args.other same,
)
