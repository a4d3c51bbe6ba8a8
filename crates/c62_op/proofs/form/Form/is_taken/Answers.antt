use Rattle.std.proofs.Common.{rules, ◌∙◌}
use Rattle.c62_op.specs.declared.register.Side.TheVariants.{A, B}
use Rattle.c62_op.proofs.TakerLemmas.{taken_by}
use Rattle.c62_op.proofs.form.Form.is_taken.Goals as goal

pub returns-in-A : goal.returns-in-A
returns-in-A c = c.sides-sides.ensures.a
    ∙ taken_by c.args.self.now c.args.operands c.args.unit A (search rules) c.in-A.is

pub returns-in-B : goal.returns-in-B
returns-in-B c = c.sides-sides.ensures.b
    ∙ taken_by c.args.self.now c.args.operands c.args.unit B (search rules) c.in-B.is
