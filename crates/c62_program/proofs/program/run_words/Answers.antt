use Rattle.std.proofs.Common.{◌≡◌, false, map, rules, true}
use Rattle.std.specs.Prelude.{string_bytes}
use Rattle.c62_teach.specs.Words.{is_lint}
use Rattle.c62_program.specs.Program.{is_told}
use Rattle.c62_program.proofs.Taught.{words_told, words_lint, words_plain}
use Rattle.c62_program.proofs.program.run_words.Goals as goal

pub returns-then-is_lint-clause-ok : goal.returns-then-is_lint-clause-ok
returns-then-is_lint-clause-ok g c =
    let yes : is_lint (map string_bytes c.args.words.now) ≡ true = search rules in
    words_lint c.args.isa _ _ _ _ _ _ yes c.in_ok-run_lint.ensures.ok

pub returns-then-is_explained-clause-ok : goal.returns-then-is_explained-clause-ok
returns-then-is_explained-clause-ok g c =
    let yes : is_told (map string_bytes c.args.words.now) ≡ true = search rules in
    words_told c.args.isa _ _ _ _ _ _ yes c.in_ok-run_told.ensures.ok

pub returns-clause-ok : goal.returns-clause-ok
returns-clause-ok g c =
    let no : is_lint (map string_bytes c.args.words.now) ≡ false = search rules in
    let none : is_told (map string_bytes c.args.words.now) ≡ false = search rules in
    words_plain c.args.isa _ _ _ _ _ _ no none c.in_ok-run_from.ensures.ok
