use Rattle.std.proofs.Common.{◌≡◌, ◌∙◌, refl, Some, None}
use Rattle.std.specs.Prelude.{codes}
use Rattle.clap.proofs.WalkLemmas.{first_value-rows}
use Rattle.clap.specs.Words.{first_of, found_of, rows_of}
use Rattle.c62_command.proofs.ParsedNumber.{number_read}
use Rattle.c62_command.proofs.command.budget_in.Goals as goal

pub returns-in-Some : goal.returns-in-Some
returns-in-Some c =
    let value : Some c.in-Some.text.now ≡ first_of (codes "eject") (rows_of (found_of c.args.matches.now)) =
    c.in-Some.ensures ∙ first_value-rows (found_of c.args.matches.now) (codes "eject") in
    rw (← value) (c.unwrap_or.ensures ∙ number_read 16 0 c.in-Some.text.now c.parse.result c.parse.ensures.value.0)

pub returns-in-None : goal.returns-in-None
returns-in-None c =
    let none : None ≡ first_of (codes "eject") (rows_of (found_of c.args.matches.now)) = c.in-None.ensures
    ∙ first_value-rows (found_of c.args.matches.now) (codes "eject") in
    rw (← none) refl
