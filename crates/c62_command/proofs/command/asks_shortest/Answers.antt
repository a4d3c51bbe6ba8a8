use Rattle.std.proofs.Common.{◌≡◌, ◌∙◌, refl, Some, None}
use Rattle.std.specs.Prelude.{codes}
use Rattle.clap.proofs.WalkLemmas.{first_value-rows}
use Rattle.clap.specs.Words.{first_of, found_of, rows_of}
use Rattle.c62_command.proofs.command.asks_shortest.Goals as goal

pub returns-in-Some : goal.returns-in-Some
returns-in-Some c =
    let value : Some c.in-Some.field-0.now ≡ first_of (codes "search") (rows_of (found_of c.args.matches.now)) =
    c.in-Some.ensures ∙ first_value-rows (found_of c.args.matches.now) (codes "search") in
    rw (← value) refl

pub returns-in-None : goal.returns-in-None
returns-in-None c =
    let none : None ≡ first_of (codes "search") (rows_of (found_of c.args.matches.now)) = c.in-None.ensures
    ∙ first_value-rows (found_of c.args.matches.now) (codes "search") in
    rw (← none) c.is_set.ensures
