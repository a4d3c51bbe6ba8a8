use Rattle.std.proofs.Common.{◌≡◌, None, Some, map, refl, rules}
use Rattle.std.specs.Prelude.{string_bytes}
use Rattle.c62_gnu_labels.specs.Words.{other_words}
use Rattle.c62_program.proofs.Labelled.{called, misnamed, uncalled}
use Rattle.c62_program.proofs.labels.run_by_labels.Goals as goal

pub returns-in-Ok-None : goal.returns-in-Ok-None
returns-in-Ok-None g c =
    let none : other_words (map g.S.AsStr.text c.args.words.now) ≡ None = search rules in
    misnamed c.args.isa _ _ _ _ _ _ _ _ none c.tell_labels.ensures.status c.tell_labels.ensures.said

pub returns-in-Err-call_of : goal.returns-in-Err-call_of
returns-in-Err-call_of g c =
    let some : other_words (map g.S.AsStr.text c.args.words.now) ≡ Some (map string_bytes c.in-Ok-Some.others.items) =
    search rules in
    uncalled c.args.isa _ _ _ c.in-Err-call_of.error _ _ _ _ _ _ some
    (rw c.deref.ensures.value at c.in-Err-call_of.ensures.err)
    c.tell_trouble-in-Err-call_of.ensures.status c.tell_trouble-in-Err-call_of.ensures.said

pub returns : goal.returns
returns g c =
    let some : other_words (map g.S.AsStr.text c.args.words.now) ≡ Some (map string_bytes c.in-Ok-Some.others.items) =
    search rules in
    called c.args.isa _ _ _ _ c.in-Ok.call _ _ _ _ some (rw c.deref.ensures.value at c.in-Ok.ensures.ok)
    c.run_labelled-status.ensures refl
