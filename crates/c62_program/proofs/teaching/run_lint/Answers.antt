use Rattle.std.proofs.Common.{◌≡◌, ◌∙◌, None, map, rules, sym}
use Rattle.std.specs.Prelude.{string_bytes}
use Rattle.c62_teach.specs.Words.{linting_of}
use Rattle.c62_program.proofs.Taught.{lint_found, lint_refused}
use Rattle.c62_program.proofs.teaching.run_lint.Goals as goal

pub returns-in_default-clause-ok : goal.returns-in_default-clause-ok
returns-in_default-clause-ok g c =
    let none : linting_of (map string_bytes c.args.words.now) ≡ None = search rules in
    lint_refused c.args.isa c.write_whole.result _ _ _ _ _ _ _ _ (search rules) none
    (rw c.deref.ensures.value at c.write_whole.ensures)

pub returns-clause-ok : goal.returns-clause-ok
returns-clause-ok g c =
    let found = c.in_ok-found.found in
    lint_found c.args.isa _ _ _ _ _ _ c.in-Some.linting c.in_ok-bytes.bytes.items found.lines.items found.faulty
    c.names_of.result.text.now c.names_of.ensures.text
    (sym c.in_ok-wanted.ensures.is ∙ c.in-Some.is) c.in_ok-bytes.ensures.ok
    (rw c.as_bytes-2.ensures.value at (rw c.deref-2.ensures.value at c.in_ok-found.ensures)) c.print_lines.ensures
