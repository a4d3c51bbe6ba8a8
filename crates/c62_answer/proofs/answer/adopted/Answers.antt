use Rattle.std.proofs.lemmas.Result.{err_from_is_err_and}
use Rattle.c62_answer.proofs.Answering.{adopted_text, no_adoption}
use Rattle.c62_answer.proofs.answer.adopted.Goals as goal

pub returns-in_err-adopted : goal.returns-in_err-adopted
returns-in_err-adopted c =
    let p = err_from_is_err_and c.from_residual.result c.from_residual.ensures.1 in
    rw p.1 (no_adoption c.args.isa c.args.drain c.args.text.now c.in_err-adopted.field-0.0 p.0 p.2
    c.in_err-adopted.ensures.adopted)

pub returns : goal.returns
returns c =
    let adopted = c.in_ok-adopted.adopted in
    rw (c.of_adoption.ensures, c.added_in.ensures)
    (adopted_text c.args.isa c.args.drain c.args.text.now c.in_ok-listing_of.field-0.items adopted.packets adopted.added
    adopted.late (c.texts_that_stand_lack_nothing.ensures c.args.isa c.args.text.now adopted.packets)
    c.in_ok-adopted.ensures.adopted c.in_ok-adopted.ensures.late
    c.in_ok-listing_of.ensures)
