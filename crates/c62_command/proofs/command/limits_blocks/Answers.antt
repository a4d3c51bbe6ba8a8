use Rattle.std.proofs.Common.{◌≡◌, ◌∙◌, refl, Some, None}
use Rattle.std.specs.Prelude.{codes}
use Rattle.clap.proofs.WalkLemmas.{first_value-rows}
use Rattle.clap.specs.Words.{first_of, found_of, rows_of}
use Rattle.c62_command.proofs.command.limits_blocks.Goals as goal

pub returns-in-Some : goal.returns-in-Some
returns-in-Some c =
    let value : Some c.in-Some.field-0.now ≡ first_of (codes "blocks") (rows_of (found_of c.args.matches.now)) =
    c.in-Some.ensures ∙ first_value-rows (found_of c.args.matches.now) (codes "blocks") in
    rw (← value) refl

pub returns-in-None : goal.returns-in-None
returns-in-None c =
    let none : None ≡ first_of (codes "blocks") (rows_of (found_of c.args.matches.now)) = c.in-None.ensures
    ∙ first_value-rows (found_of c.args.matches.now) (codes "blocks") in
    rw (← none) refl
