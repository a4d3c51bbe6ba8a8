use Rattle.std.proofs.Common.{sym, ◌∙◌}
use Rattle.c62_op.proofs.SomewhereLemmas.{somewhere}
use Rattle.c62_op.proofs.operands.Op.is_taken.Goals as goal

pub returns : goal.returns
returns c = c.has_taking_form.ensures ∙ sym (somewhere c.args.set c.args.self c.args.operands)
