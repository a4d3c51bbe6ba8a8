use Rattle.std.proofs.lemmas.Result.{IfOk-weaker}
use Rattle.c62_program.proofs.Calling.{target_to}
use Rattle.c62_program.proofs.program.run_target.Goals as goal

pub returns-in-None-clause-ok : goal.returns-in-None-clause-ok
returns-in-None-clause-ok g c = rw c.in-None.is c.run_words.ensures.ok

pub returns-in-None-clause-why : goal.returns-in-None-clause-why
returns-in-None-clause-why g c = rw c.in-None.is c.run_words.ensures.why

pub returns-in-Some-clause-ok : goal.returns-in-Some-clause-ok
returns-in-Some-clause-ok g c =
    rw c.in-Some.is
    (IfOk-weaker c.run_to.result _ _ (λ status run. target_to c.args.isa _ _ _ _ c.in-Some.target _ _ _ _ _ status run)
    c.run_to.ensures.ok)

pub returns-in-Some-clause-why : goal.returns-in-Some-clause-why
returns-in-Some-clause-why g c = rw c.in-Some.is c.run_to.ensures.why
