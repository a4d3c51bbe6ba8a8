use Rattle.std.proofs.Common.{◌≡◌, ◌∙◌, Some, None, ap}
use Rattle.std.specs.Prelude.{codes}
use Rattle.clap.proofs.WalkLemmas.{first_value-rows}
use Rattle.clap.specs.Words.{first_of, found_of, rows_of}
use Rattle.c62_command.proofs.checking.regs_in.Goals as goal

pub returns-in-Some : goal.returns-in-Some
returns-in-Some c =
    let value : Some c.in-Some.text.now ≡ first_of (codes "apart") (rows_of (found_of c.args.matches.now)) =
    c.in-Some.ensures ∙ first_value-rows (found_of c.args.matches.now) (codes "apart") in
    rw (← value) (rw c.as_bytes.ensures.value at c.apart_in.ensures)

pub returns-in-None : goal.returns-in-None
returns-in-None c =
    let none : None ≡ first_of (codes "apart") (rows_of (found_of c.args.matches.now)) = c.in-None.ensures
    ∙ first_value-rows (found_of c.args.matches.now) (codes "apart") in
    rw (← none) (ap Some c.new.ensures.items)
