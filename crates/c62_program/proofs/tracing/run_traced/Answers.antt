use Rattle.std.proofs.Common.{◌≡◌, None, Some, map, rules}
use Rattle.c62_answer.specs.Run.{streams}
use Rattle.c62_tracing.specs.Words.{told_in, tracing_of}
use Rattle.c62_program.proofs.Traced.{called, misnamed, uncalled}
use Rattle.c62_program.proofs.tracing.run_traced.Goals as goal

pub returns-in-Ok-None : goal.returns-in-Ok-None
returns-in-Ok-None g c =
    let none : tracing_of (map g.S.AsStr.text c.args.words.now) ≡ None = search rules in
    misnamed c.args.isa _ _ _ _ _ _ _ _ none c.tell_words.ensures.status c.tell_words.ensures.said

pub returns-in-Err-call_of : goal.returns-in-Err-call_of
returns-in-Err-call_of g c =
    uncalled c.args.isa _ _ _ c.in-Err-call_of.error _ _ _ _ _ _ c.in-Ok.ensures
    (rw c.deref.ensures.value at c.in-Err-call_of.ensures.err)
    c.tell_trouble-in-Err-call_of.ensures.status c.tell_trouble-in-Err-call_of.ensures.said

pub returns : goal.returns
returns g c =
    let some : tracing_of (map g.S.AsStr.text c.args.words.now) ≡ Some (told_in c.in-Ok-Some.tracing) = search rules in
    called c.args.isa _ _ _ _ _ c.in-Ok-call_of.call
    (streams (g.R.Read.remaining c.args.input.now) (g.W.Write.contents c.args.output.now)
    (g.E.Write.contents c.args.errors))
    _ _ _ some c.in-Ok.ensures (rw c.deref.ensures.value at c.in-Ok-call_of.ensures.ok)
    c.run_call_traced.ensures
