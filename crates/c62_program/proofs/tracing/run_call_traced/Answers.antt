use Rattle.std.proofs.Common.{inl, inr, refl}
use Rattle.std.proofs.KnownBytes.{Keeps-refl}
use Rattle.c62_program.specs.Tracing.{Stopped}
use Rattle.c62_program.specs.Trouble.{Expanding}
use Rattle.c62_program.proofs.Traced.{same_errors, same_files, traced}
use Rattle.c62_program.proofs.tracing.run_call_traced.Goals as goal

pub returns-in-Err : goal.returns-in-Err
returns-in-Err g c =
    Stopped c.of_words.result (inl (Expanding c.in-Err.error (rw c.deref.ensures.value at c.in-Err.ensures.err)
    c.of_words.ensures)) c.tell_trouble.ensures.status (Keeps-refl _) (same_files _ _ _ refl) _ (same_errors _ _ _ refl)
    c.tell_trouble.ensures.said

pub returns-in-Err-text : goal.returns-in-Err-text
returns-in-Err-text g c =
    Stopped c.in-Err-text.trouble (inr (rw c.in-Err-text.is at c.text_traced-errors.ensures.why))
    c.tell_trouble-in-Err-text.ensures.status (Keeps-refl _)
    (rw c.in-Err-text.is at c.text_traced-errors.ensures.files) _
    (rw c.in-Err-text.is at c.text_traced-errors.ensures.errors)
    c.tell_trouble-in-Err-text.ensures.said

pub returns : goal.returns
returns g c =
    traced c.args.isa _ _ _ _ c.args.call.now _ _ _ _ _ _ _ _ _ _ c.answer_call-status.result _
    (rw c.deref.ensures.value at c.in-Ok.ensures.ok)
    (rw (c.in-Ok-text.is, c.deref-2.ensures.value) at c.text_traced-errors.ensures.ok)
    (rw (c.deref-3.ensures.value, c.bytes_of.ensures) at c.answer_call-status.ensures)
