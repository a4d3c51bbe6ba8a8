use Rattle.std.proofs.Common.{◌≡◌, ◌∙◌, false, length, refl, rules, true}
use Rattle.std.proofs.lemmas.Result.{IfOk-weaker, err_from_is_err_and, on_err_weaker}
use Rattle.c62_program.specs.Trouble.{Expanding}
use Rattle.c62_program.proofs.Calling.{called, count_trouble}
use Rattle.c62_program.proofs.Dumps.{on_err}
use Rattle.c62_program.proofs.Failing.{not_begun}
use Rattle.c62_program.proofs.program.run_call.Goals as goal

pub returns-in-Err-clause-why : goal.returns-in-Err-clause-why
returns-in-Err-clause-why g c = Expanding c.in-Err.error (rw c.deref.ensures.value at c.in-Err.ensures.err)
    c.of_words.ensures

pub returns-in-Err-clause-kept : goal.returns-in-Err-clause-kept
returns-in-Err-clause-kept g c = not_begun _ _ _ refl

pub returns-in_err-kept-clause-kept : goal.returns-in_err-kept-clause-kept
returns-in_err-kept-clause-kept g c = on_err c.from_residual.result (not_begun _ _ _ refl)

pub returns-in_err-kept-clause-why : goal.returns-in_err-kept-clause-why
returns-in_err-kept-clause-why g c =
    let count : c.len.result ≡ length c.args.call.now.dumps.items = c.len.ensures ∙ c.args.call.now.dumps.ok.0 in
    let p = err_from_is_err_and c.from_residual.result c.from_residual.ensures.1 in
    rw (p.1, p.2)
    (count_trouble _ _ _ _ (rw c.deref.ensures.value at c.in-Ok.ensures.ok)
    (rw (count, c.deref-2.ensures.value) at c.in_err-kept.ensures.err))

pub returns-then-is_plain-clause-kept : goal.returns-then-is_plain-clause-kept
returns-then-is_plain-clause-kept g c = on_err_weaker c.run_target.result (λ kept. not_begun _ _ _ kept)
    c.run_target.ensures.kept

pub returns-then-is_plain-clause-ok : goal.returns-then-is_plain-clause-ok
returns-then-is_plain-clause-ok g c =
    let count : c.len.result ≡ length c.args.call.now.dumps.items = c.len.ensures ∙ c.args.call.now.dumps.ok.0 in
    IfOk-weaker c.run_target.result _ _
    (λ status run. called c.args.isa _ _ c.args.call.now _ _ true _ _ status
    (rw c.deref.ensures.value at c.in-Ok.ensures.ok)
    (rw (count, c.deref-2.ensures.value, c.is_some.ensures) at c.in_ok-kept.ensures.ok) (search rules) run)
    (rw c.deref-then-is_plain.ensures.value at c.run_target.ensures.ok)

pub returns-clause-ok : goal.returns-clause-ok
returns-clause-ok g c =
    let count : c.len.result ≡ length c.args.call.now.dumps.items = c.len.ensures ∙ c.args.call.now.dumps.ok.0 in
    IfOk-weaker c.run_dumping.result _ _
    (λ status run. called c.args.isa _ _ c.args.call.now _ _ false _ _ status
    (rw c.deref.ensures.value at c.in-Ok.ensures.ok)
    (rw (count, c.deref-2.ensures.value, c.is_some.ensures) at c.in_ok-kept.ensures.ok) (search rules) run)
    (rw c.deref-5.ensures.value at c.run_dumping.ensures.ok)
