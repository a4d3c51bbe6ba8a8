use Rattle.c62_answer.proofs.Documented.{adopted_documented}
use Rattle.c62_answer.proofs.documents.adopted.Goals as goal

pub returns : goal.returns
returns c =
    let adopted = c.in_ok-adopted.adopted in
    rw (c.of_adoption.ensures, c.added_in-added.ensures)
    (adopted_documented c.args.isa c.args.drain c.args.text.now c.in_ok-adopted_document.field-0.items adopted.packets
    adopted.added adopted.late (c.texts_that_stand_lack_nothing.ensures c.args.isa c.args.text.now adopted.packets)
    c.in_ok-adopted.ensures.adopted c.in_ok-adopted.ensures.late
    (rw (c.drained.ensures, c.added_in-added.ensures) at c.in_ok-adopted_document.ensures))
