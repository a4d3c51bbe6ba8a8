use Rattle.std.proofs.lemmas.Bool.{OnTrue_at, OnTrue_from}
use Rattle.c62_check_loop.proofs.Relining.{same_text}
use Rattle.c62_check_loop.proofs.relined.are_relined.Goals as goal

pub returns-then-are_same_aims : goal.returns-then-are_same_aims
returns-then-are_same_aims c =
    OnTrue_from c.are_same_rows.result _ (λ t.
    same_text c.args.rows.now c.args.others.now c.deref-then-are_same_aims.result.now
    c.deref-then-are_same_aims-2.result.now c.deref.result.now c.deref-2.result.now
    c.deref-then-are_same_aims.ensures.value c.deref-then-are_same_aims-2.ensures.value c.deref.ensures.value
    c.deref-2.ensures.value
    (OnTrue_at t c.are_same_rows.ensures) c.if-are_same_aims.ensures)
