use Rattle.std.proofs.Common.{◌≡◌, false, inr, map, rules, true}
use Rattle.std.specs.Prelude.{string_bytes}
use Rattle.c62_program.specs.Program.{is_made}
use Rattle.c62_program.proofs.Calling.{is_late, made_none, made_one}
use Rattle.c62_program.proofs.program.run_to.Goals as goal

pub returns-then-not-is_made-clause-ok : goal.returns-then-not-is_made-clause-ok
returns-then-not-is_made-clause-ok g c =
    let none : is_made (map string_bytes c.args.words.now) c.in_ok-status.status ≡ false = search rules in
    made_none c.args.isa _ _ _ _ _ _ _ _ _ _ none (rw c.new-answer.ensures.items at c.in_ok-status.ensures.ok)

pub returns-in-Ok-clause-ok : goal.returns-in-Ok-clause-ok
returns-in-Ok-clause-ok g c =
    let one : is_made (map string_bytes c.args.words.now) c.in_ok-status.status ≡ true = search rules in
    made_one c.args.isa _ _ _ _ _ _ _ _ _ _ _ one (rw c.deref.ensures.value at c.in-Ok.ensures.ok)
    (rw c.new-answer.ensures.items at c.in_ok-status.ensures.ok)

pub returns-clause-silent : goal.returns-clause-silent
returns-clause-silent g c = λ is. absurd (is_late _ _ c.of_writing.ensures is)

pub returns-clause-kept : goal.returns-clause-kept
returns-clause-kept g c = c.in-Err.ensures.err

pub returns-clause-why : goal.returns-clause-why
returns-clause-why g c = inr c.of_writing.ensures
