-- Each text has a flight.
use Rattle.std.proofs.Common.{◌≡◌, ℕ, zero, suc, ◌+◌, ◌<◌, ◌≤◌, Bool, cond, List, [], ◌∷◌, ◌++◌, Option}
use Rattle.std.proofs.Common.{Some, None, refl, sym, ◌∙◌, ap, subst, ◌⊎◌, inl, inr, arith}
use Rattle.std.specs.Prelude.{nat_le, min}
use Rattle.std.proofs.lemmas.List.{append-nil, append_assoc}
use Rattle.c62_serial.specs.State.{Machine, IsSound}
use Rattle.c62_packet.specs.declared.placed.Placed.{Placed}
use Rattle.c62_meaning.specs.Packet.{IsRun}
use Rattle.c62_meaning.specs.Meaning.{LeavesState}
use Rattle.c62_meaning.proofs.Lookup.{In-append_cases}
use Rattle.c62_meaning.proofs.Runs.{the_run, the_run_runs}
use Rattle.c62_meaning.proofs.JoinedRuns.{runs_to}
use Rattle.c62_flight.specs.declared.stop.Stop.{Stop}
use Rattle.c62_flight.specs.declared.stop.Stop.TheVariants.{End, Limit}
use Rattle.c62_flight.specs.Text.{Text, Position, At, row_of, position_after}
use Rattle.c62_flight.specs.Issued.{Visit, Issued, issued_in, issued_on, turn, over_of}
use Rattle.c62_flight.specs.Broken.{IsWholeBefore}
use Rattle.c62_flight.specs.Flight.{ended, Leads, Stops, Flies}
use Rattle.c62_flight.specs.Laws.{Outcome, FliesTo, HasOneFlight}
use Rattle.c62_flight.proofs.Fronts.{Late, Early, AreSameUntil, same_until, turn_same, over_later, over_same}
use Rattle.c62_flight.proofs.Fronts.{broken_same, ended_same}
use Rattle.c62_flight.proofs.PathTimes.{Goes, path_late, in_visit}
use Rattle.c62_flight.proofs.OneFlight.{early_after, one_flight}
use Rattle.c62_flight.proofs.Stops.{BreaksBelow, first_broken, Stopped, stopped_at}

-- ---- a run from some cycle on

record Found (text : Text) (limit : ℕ) (opening : Machine) (front : List Placed) (position : Position) (cycle : ℕ) :
    Type 0 where
  pub path : List Visit
  pub stop : Stop
  pub cycles : ℕ
  pub goes : Goes text limit opening front position cycle path stop cycles

module _ (text : Text) (limit : ℕ) (opening : Machine) where
  -- what these do when nothing else is issued
  abbrev alone : List Placed → Issued
  alone front = record { placed = front; did = the_run front opening }

  no_more : (front : List Placed) (position : Position) (cycle : ℕ) → Stopped text limit (alone front) position cycle
      → Found text limit opening front position cycle
  no_more front position cycle s = record {
    path = [];
    stop = s.stop;
    cycles = s.cycles;
    goes = record {
      issued = alone front;
      is = sym (append-nil front);
      run = the_run_runs front opening;
      last = position;
      end = cycle;
      leads = (refl, refl);
      stops = s.stops;
    };
  }

  abbrev more : List Placed → Visit → List Placed
  more front visit = front ++ issued_in text visit

  -- when a row is over that is begun behind these, and where the run stands then
  abbrev over_then : List Placed → Visit → ℕ
  over_then front visit = over_of text (alone (more front visit)) visit

  abbrev then_at : List Placed → Visit → Position
  then_at front visit = position_after text visit.row (turn (alone (more front visit)) (over_then front visit))

  module _ (front : List Placed) (visit : Visit) (early : Early visit.start front)
      (on : ended text limit (alone front) (At visit.row) visit.start ≡ None)
      (whole : IsWholeBefore (alone front) visit.start)
      (f : Found text limit opening (more front visit) (then_at front visit) (over_then front visit)) where
    late : Late (over_then front visit) (issued_on text f.path)
    late = path_late text limit f.goes.issued (then_at front visit) (over_then front visit) f.path f.goes.last
        f.goes.end f.goes.leads

    later : visit.start < over_then front visit
    later = over_later (alone (more front visit)) visit.start (row_of text visit.row).idle

    late_all : Late visit.start (issued_in text visit ++ issued_on text f.path)
    late_all p h =
        elim (In-append_cases p (issued_in text visit) (issued_on text f.path) h) [
          | inl k ↦ (let e : p.cycle ≡ visit.start = in_visit text visit p k in omega arith)
          | inr k ↦ (let l : over_then front visit ≤ p.cycle = late p k in let u : visit.start < over_then front visit =
              later in omega arith)
        ]

    until_start : AreSameUntil visit.start (alone front) f.goes.issued
    until_start =
        same_until opening visit.start visit.start front [] (issued_in text visit ++ issued_on text f.path)
        (alone front) f.goes.issued early (λ p k. absurd k) late_all (λ p k. absurd k) late_all
        (sym (append-nil front)) (f.goes.is
        ∙ append_assoc front (issued_in text visit) (issued_on text f.path)) (the_run_runs front opening)
        f.goes.run

    until_over : (c : ℕ) → c ≤ over_then front visit → AreSameUntil c (alone (more front visit)) f.goes.issued
    until_over c l =
        same_until opening c (suc visit.start) (more front visit) [] (issued_on text f.path) (alone (more front visit))
        f.goes.issued
        (early_after text limit opening front visit visit.start (suc visit.start) early refl (omega arith))
        (λ p k. absurd k)
        (λ p k. (let a : over_then front visit ≤ p.cycle = late p k in let u : visit.start < over_then front visit =
        later in omega arith)) (λ p k. absurd k)
        (λ p k. let a : over_then front visit ≤ p.cycle = late p k in omega arith)
        (sym (append-nil (more front visit))) f.goes.is (the_run_runs (more front visit) opening) f.goes.run

    over_one : over_then front visit ≡ over_of text f.goes.issued visit
    over_one =
        over_same (alone (more front visit)) f.goes.issued visit.start (row_of text visit.row).idle
        (λ c l u. turn_same c c (alone (more front visit)) f.goes.issued (until_over c l) (omega arith))

    turn_one : turn (alone (more front visit)) (over_then front visit) ≡ turn f.goes.issued
        (over_of text f.goes.issued visit)
    turn_one =
        turn_same (over_then front visit) (over_then front visit) (alone (more front visit)) f.goes.issued
        (until_over (over_then front visit) (omega arith)) (omega arith)
        ∙ ap (λ c. turn f.goes.issued c) over_one

    -- a row that is begun, and what is found from when it is over
    one_more : Found text limit opening front (At visit.row) visit.start
    one_more = record {
      path = visit ∷ f.path;
      stop = f.stop;
      cycles = f.cycles;
      goes = record {
        issued = f.goes.issued;
        is = f.goes.is ∙ append_assoc front (issued_in text visit) (issued_on text f.path);
        run = f.goes.run;
        last = f.goes.last;
        end = f.goes.end;
        leads = (
          record {
            there = refl;
            when = refl;
            on = sym (ended_same text limit visit.start visit.start (alone front) f.goes.issued (At visit.row)
                until_start (omega arith)) ∙ on;
            whole = λ c l. sym (broken_same visit.start c (alone front) f.goes.issued until_start l) ∙ whole c l;
          },
          subst (λ c. Leads text limit f.goes.issued
              (position_after text visit.row (turn f.goes.issued (over_of text f.goes.issued visit))) c f.path
              f.goes.last f.goes.end) over_one
              (subst (λ o. Leads text limit f.goes.issued (position_after text visit.row o) (over_then front visit)
              f.path f.goes.last f.goes.end) turn_one f.goes.leads),
        );
        stops = f.goes.stops;
      };
    }

  -- a run that is not ended stands before a row, and below the limit
  before_row : (issued : Issued) (position : Position) (cycle : ℕ) → ended text limit issued position cycle ≡ None
      → (row : ℕ) × (position ≡ At row)
  before_row issued position cycle e = grind arith

  below_limit : (goes : Bool) (cycle : ℕ) → cond goes (cond (nat_le limit cycle) (Some Limit) None) (Some End) ≡ None
      → cycle < limit
  below_limit goes cycle e = grind arith

  -- a run is stopped where it stands, or begins a row
  decide : (front : List Placed) (position : Position) (cycle : ℕ) → Early cycle front
      → ((row : ℕ) → position ≡ At row → ended text limit (alone front) (At row) cycle ≡ None
      → IsWholeBefore (alone front) cycle → Found text limit opening front position cycle)
      → Found text limit opening front position cycle
  decide front position cycle early next = by_broken (first_broken (alone front) cycle)
    where
      by_end : IsWholeBefore (alone front) cycle → (o : Option Stop) → ended text limit (alone front) position cycle ≡ o
          → Found text limit opening front position cycle
      by_end whole (Some stop) e = no_more front position cycle
          (stopped_at text limit opening (alone front) position cycle stop (the_run_runs front opening) early e)
      by_end whole None e =
          let r = before_row (alone front) position cycle e in
          next r.0 r.1 (subst (λ p. ended text limit (alone front) p cycle ≡ None) r.1 e) whole

      by_broken : IsWholeBefore (alone front) cycle ⊎ BreaksBelow (alone front) cycle
          → Found text limit opening front position cycle
      by_broken (inr b) =
          no_more front position cycle (record {
            stop = b.stop;
            cycles = min (b.cycle + 1) cycle;
            stops = inl (record {
              cycle = b.cycle;
              whole = b.whole;
              breaks = b.breaks;
              seen = inl b.below;
              told = refl;
            });
          })
      by_broken (inl whole) = by_end whole (ended text limit (alone front) position cycle) refl

  -- so much of the limit being left
  find_from : (fuel : ℕ) (front : List Placed) (position : Position) (cycle : ℕ) → limit ≤ cycle + fuel
      → Early cycle front → Found text limit opening front position cycle
  find_from zero front position cycle l early = grind (arith, decide front position cycle early, below_limit)
  find_from (suc fuel) front position cycle l early =
      decide front position cycle early
      (λ row e on whole.
      let visit : Visit = record { row = row; start = cycle } in
      let u : cycle < over_then front visit = over_later (alone (more front visit)) cycle (row_of text row).idle in
      subst (λ p. Found text limit opening front p cycle) (sym e)
      (one_more front visit early on whole
      (find_from fuel (more front visit) (then_at front visit) (over_then front visit) (omega arith)
      (early_after text limit opening front visit cycle (over_then front visit) early refl u))))

-- ---- the flight

-- what a run from a row on leaves
pub flies_from : (text : Text) (first limit : ℕ) (opening : Machine) (path : List Visit) (stop : Stop) (cycles : ℕ)
    → IsSound opening
    → (g : Goes text limit opening [] (At first) 0 path stop cycles)
    → (final : Machine) × Flies text first limit opening stop cycles final
    × LeavesState (issued_on text path) (cycles + 4) opening g.issued.did final
flies_from text first limit opening path stop cycles sound g =
    let run : IsRun (issued_on text path) opening g.issued.did = subst (λ ps. IsRun ps opening g.issued.did) g.is g.run
    in
    let r = runs_to (issued_on text path) (cycles + 4) opening g.issued.did sound run in (
      r.0,
      record {
        path = path;
        did = g.issued.did;
        runs = r.1;
        last = g.last;
        end = g.end;
        leads = subst (λ ps. Leads text limit (record { placed = ps; did = g.issued.did }) (At first) 0 path g.last
            g.end) g.is g.leads;
        stops = subst (λ ps. Stops text limit (record { placed = ps; did = g.issued.did }) g.last g.end stop cycles)
            g.is g.stops;
      },
      r.1.leaves,
    )

has_flight : (text : Text) (first limit : ℕ) (opening : Machine) → IsSound opening → (outcome : Outcome)
    × FliesTo text first limit opening outcome
has_flight text first limit opening sound =
    let f : Found text limit opening [] (At first) 0 = find_from text limit opening limit [] (At first) 0 (omega arith)
    (λ p k. absurd k) in
    let r = flies_from text first limit opening f.path f.stop f.cycles sound f.goes in
    (record { stop = f.stop; cycles = f.cycles; final = r.0 }, r.1)

pub has_one_flight : (text : Text) (first limit : ℕ) (opening : Machine) → IsSound opening
    → HasOneFlight text first limit opening
has_one_flight text first limit opening sound =
    let f : (outcome : Outcome)
    × FliesTo text first limit opening outcome = has_flight text first limit opening sound in
    record { outcome = f.0; is = f.1; only = λ other g. one_flight text first limit opening f.0 other f.1 g }
