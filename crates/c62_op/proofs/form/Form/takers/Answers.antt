use Rattle.c62_op.proofs.TakerLemmas.{takers_of}
use Rattle.c62_op.proofs.form.Form.takers.Goals as goal

pub returns : goal.returns
returns c = λ unit.
    takers_of c.args.self.now c.args.operands c.sides-sides.result.a c.sides-sides.result.b c.bits.result
    c.number.result unit
    c.sides-sides.ensures.a c.sides-sides.ensures.b c.bits.ensures.bits c.number.ensures.number
