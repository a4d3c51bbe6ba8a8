use Rattle.std.proofs.Common.{◌≡◌, ◌∙◌, Some, None, map, sym, ap}
use Rattle.std.specs.Prelude.{codes}
use Rattle.clap.proofs.WalkLemmas.{raw_values-rows}
use Rattle.clap.specs.Words.{all_of, found_of, rows_of}
use Rattle.c62_command.specs.Promises.{trips_of}
use Rattle.c62_command.proofs.checking.trips_in.Goals as goal

pub returns-in-Some-clause-ok : goal.returns-in-Some-clause-ok
returns-in-Some-clause-ok c =
    let value : Some (map (λ text. text.now) c.in-Some.texts.now) ≡ all_of (codes "trips")
    (rows_of (found_of c.args.matches.now)) = c.in-Some.ensures
    ∙ raw_values-rows (found_of c.args.matches.now) (codes "trips") in
    rw (← value) c.read_trips.ensures.ok

pub returns-in-Some-clause-err : goal.returns-in-Some-clause-err
returns-in-Some-clause-err c =
    let value : Some (map (λ text. text.now) c.in-Some.texts.now) ≡ all_of (codes "trips")
    (rows_of (found_of c.args.matches.now)) = c.in-Some.ensures
    ∙ raw_values-rows (found_of c.args.matches.now) (codes "trips") in
    rw (← value) c.read_trips.ensures.err

pub returns-in-None-clause-ok : goal.returns-in-None-clause-ok
returns-in-None-clause-ok c =
    let none : None ≡ all_of (codes "trips") (rows_of (found_of c.args.matches.now)) = c.in-None.ensures
    ∙ raw_values-rows (found_of c.args.matches.now) (codes "trips") in
    rw (← none) (ap (λ xs. Some (map trips_of xs)) (sym c.new.ensures.items))
