use Rattle.std.proofs.Common.{refl}
use Rattle.std.proofs.KnownBytes.{Keeps-refl}
use Rattle.c62_program.specs.Labels.{Stopped}
use Rattle.c62_program.specs.Trouble.{Expanding}
use Rattle.c62_program.proofs.Labelled.{ended, stopped_by_source}
use Rattle.c62_program.proofs.labels.run_labelled.Goals as goal

pub returns-in-Err : goal.returns-in-Err
returns-in-Err g c =
    Stopped c.of_words.result (Expanding c.in-Err.error (rw c.deref.ensures.value at c.in-Err.ensures.err)
    c.of_words.ensures) c.give_up.ensures.status c.give_up.ensures.said (Keeps-refl _) refl

pub returns-in-Err-text_relabelled : goal.returns-in-Err-text_relabelled
returns-in-Err-text_relabelled g c =
    Stopped c.in-Err-text_relabelled.trouble
    (stopped_by_source _ c.args.call.now c.in-Err-text_relabelled.trouble c.in-Err-text_relabelled.ensures.err)
    c.give_up-in-Err-text_relabelled.ensures.status c.give_up-in-Err-text_relabelled.ensures.said (Keeps-refl _) refl

pub returns : goal.returns
returns g c =
    ended c.args.isa _ _ c.args.call.now _ _ _ _ _ _ _ _ _ _ (rw c.deref.ensures.value at c.in-Ok.ensures.ok)
    (rw c.deref-2.ensures.value at c.in-Ok-text_relabelled.ensures.ok)
    (rw (c.deref-3.ensures.value, c.bytes_of-text.ensures) at c.answer_call.ensures)
