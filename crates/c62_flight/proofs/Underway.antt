-- A flight made forwards, packet by packet, as a machine makes it.
use Rattle.std.proofs.Common.{◌≡◌, ℕ, List, [], ◌∷◌, ◌++◌, refl, sym, ◌∙◌, ap, arith}
use Rattle.std.proofs.lemmas.List.{append-nil}
use Rattle.std.proofs.lemmas.Grind.{flat_map-append}
use Rattle.c62_serial.specs.State.{Machine}
use Rattle.c62_meaning.proofs.Runs.{the_run, the_run_runs}
use Rattle.c62_flight.specs.Text.{Text, Position, At, position_after}
use Rattle.c62_flight.specs.Issued.{Visit, Issued, issued_in, issued_on, turn, over_of}
use Rattle.c62_flight.specs.Flight.{Begins, Leads}
use Rattle.c62_flight.proofs.Fronts.{Late, AreSameUntil, same_until, broken_same, ended_same}
use Rattle.c62_flight.proofs.PathTimes.{in_visit}
use Rattle.c62_flight.proofs.LaterPaths.{path_early, leads_front, leads_on}

-- what the instructions of a path do when nothing else is issued
abbrev pub on_path : Text → Machine → List Visit → Issued
on_path text opening path = record { placed = issued_on text path; did = the_run (issued_on text path) opening }

-- a run has come so far
abbrev pub IsUnderway : Text → ℕ → ℕ → Machine → List Visit → Position → ℕ → Type 0
IsUnderway text first limit opening path position cycle = Leads text limit (on_path text opening path) (At first) 0 path
    position cycle

module _ (text : Text) (first limit : ℕ) (opening : Machine) where
  pub begun : IsUnderway text first limit opening [] (At first) 0
  begun = (refl, refl)

  visit_late : (visit : Visit) → Late visit.start (issued_in text visit)
  visit_late visit p h = let e : p.cycle ≡ visit.start = in_visit text visit p h in omega arith

  one_visit : (visit : Visit) → issued_on text (visit ∷ []) ≡ issued_in text visit
  one_visit visit = append-nil (issued_in text visit)

  -- until a row begins, what is issued in it says nothing
  alike : (path : List Visit) (position : Position) (visit : Visit)
      → IsUnderway text first limit opening path position visit.start
      → AreSameUntil visit.start (on_path text opening path) (on_path text opening (path ++ visit ∷ []))
  alike path position visit under =
      same_until opening visit.start visit.start (issued_on text path) [] (issued_in text visit)
      (on_path text opening path) (on_path text opening (path ++ visit ∷ []))
      (path_early text limit (on_path text opening path) (At first) 0 path position visit.start under) (λ p h. absurd h)
      (visit_late visit) (λ p h. absurd h) (visit_late visit)
      (sym (append-nil (issued_on text path))) (flat_map-append (issued_in text) path (visit ∷ [])
      ∙ ap (λ ps. issued_on text path ++ ps) (one_visit visit))
      (the_run_runs (issued_on text path) opening) (the_run_runs (issued_on text (path ++ visit ∷ [])) opening)

  -- a row begins, and the run comes to where it stands when that is over
  pub goes_further : (path : List Visit) (position : Position) (visit : Visit)
      → IsUnderway text first limit opening path position visit.start
      → Begins text limit (on_path text opening path) position visit.start visit
      → IsUnderway text first limit opening (path ++ visit ∷ [])
      (position_after text visit.row
      (turn (on_path text opening (path ++ visit ∷ []))
      (over_of text (on_path text opening (path ++ visit ∷ [])) visit)))
      (over_of text (on_path text opening (path ++ visit ∷ [])) visit)
  goes_further path position visit under begins =
      let same : AreSameUntil visit.start (on_path text opening path) (on_path text opening (path ++ visit ∷ [])) =
      alike path position visit under in
      leads_on text limit (on_path text opening (path ++ visit ∷ [])) (At first) position 0 visit.start path
      (visit ∷ [])
      (position_after text visit.row
      (turn (on_path text opening (path ++ visit ∷ []))
      (over_of text (on_path text opening (path ++ visit ∷ [])) visit)))
      (over_of text (on_path text opening (path ++ visit ∷ [])) visit)
      (leads_front text limit (on_path text opening path) (on_path text opening (path ++ visit ∷ [])) (At first) 0 path
      position visit.start same under) (
        record {
          there = begins.there;
          when = refl;
          on = sym (ended_same text limit visit.start visit.start (on_path text opening path)
              (on_path text opening (path ++ visit ∷ [])) position same (omega arith)) ∙ begins.on;
          whole = λ c l. sym (broken_same visit.start c (on_path text opening path)
              (on_path text opening (path ++ visit ∷ [])) same l) ∙ begins.whole c l;
        },
        (refl, refl),
      )
