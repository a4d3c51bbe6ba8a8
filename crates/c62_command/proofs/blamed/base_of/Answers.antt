use Rattle.std.proofs.Common.{◌≡◌, ◌∙◌, Some, None, map, refl}
use Rattle.std.specs.Prelude.{codes}
use Rattle.clap.proofs.WalkLemmas.{raw_values-rows}
use Rattle.clap.specs.Words.{all_of, found_of, rows_of}
use Rattle.c62_command.proofs.blamed.base_of.Goals as goal

pub returns-in-Some : goal.returns-in-Some
returns-in-Some c =
    let value : Some (map (λ text. text.now) c.in-Some.words.now) ≡ all_of (codes "settings")
    (rows_of (found_of c.args.found.now))
    = c.in-Some.ensures ∙ raw_values-rows (found_of c.args.found.now) (codes "settings") in
    rw (← value) c.base_among.ensures

pub returns-in-None : goal.returns-in-None
returns-in-None c =
    let none : None ≡ all_of (codes "settings") (rows_of (found_of c.args.found.now))
    = c.in-None.ensures ∙ raw_values-rows (found_of c.args.found.now) (codes "settings") in
    rw (← none) refl
