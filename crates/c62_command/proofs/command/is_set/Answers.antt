use Rattle.std.proofs.Common.{◌≡◌, ◌∙◌, refl, Some, None}
use Rattle.clap.proofs.WalkLemmas.{first_value-rows}
use Rattle.clap.specs.Words.{first_of, found_of, rows_of}
use Rattle.c62_command.proofs.command.is_set.Goals as goal

pub returns-in-Some : goal.returns-in-Some
returns-in-Some c =
    let value : Some c.in-Some.text.now ≡ first_of c.args.flag.now (rows_of (found_of c.args.matches.now)) =
    c.in-Some.ensures ∙ first_value-rows (found_of c.args.matches.now) c.args.flag.now in
    rw (← value) c.eq.ensures

pub returns-in-None : goal.returns-in-None
returns-in-None c =
    let none : None ≡ first_of c.args.flag.now (rows_of (found_of c.args.matches.now)) = c.in-None.ensures
    ∙ first_value-rows (found_of c.args.matches.now) c.args.flag.now in
    rw (← none) refl
