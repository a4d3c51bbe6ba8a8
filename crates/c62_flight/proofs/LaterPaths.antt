-- Paths that go on, and paths so many cycles later.
use Rattle.std.proofs.Common.{◌≡◌, ℕ, ◌+◌, ◌<◌, ◌≤◌, eqb, leb, List, [], ◌∷◌, ◌++◌, map, Some, refl, sym, ◌∙◌, ap}
use Rattle.std.proofs.Common.{subst, inl, inr, arith}
use Rattle.std.specs.Prelude.{min}
use Rattle.std.proofs.lemmas.Bool.{le-leb, lt-leb}
use Rattle.std.proofs.lemmas.Option.{none-some}
use Rattle.std.proofs.lemmas.List.{map-append}
use Rattle.c62_serial.specs.State.{Machine}
use Rattle.c62_packet.specs.declared.placed.Placed.{Placed}
use Rattle.c62_meaning.specs.Cut.{moved}
use Rattle.c62_meaning.proofs.Lookup.{In, In_from_Contains, In-append_cases}
use Rattle.c62_meaning.proofs.CutWords.{from_map}
use Rattle.c62_flight.specs.declared.stop.Stop.{Stop}
use Rattle.c62_flight.specs.Text.{Text, Position, At, row_of, position_after}
use Rattle.c62_flight.specs.Issued.{Visit, Issued, issue_in, issued_in, issued_on, turn, over_of}
use Rattle.c62_flight.specs.Broken.{broken}
use Rattle.c62_flight.specs.Flight.{Leads, Stops, Flies}
use Rattle.c62_flight.specs.Cut.{LandsInFour}
use Rattle.c62_flight.proofs.Fronts.{Late, Early, AreSameUntil, turn_same, over_later, over_same, broken_same}
use Rattle.c62_flight.proofs.Fronts.{ended_same}
use Rattle.c62_flight.proofs.PathTimes.{in_visit, end_late}
use Rattle.c62_flight.proofs.Stops.{lands_soon}
use Rattle.std.proofs.lemmas.Bool.Decides.{nat_tests}

-- ---- what is issued on a path is issued before it ends

pub path_early : (text : Text) (limit : ℕ) (issued : Issued) (position : Position) (cycle : ℕ) (path : List Visit)
    (last : Position) (end : ℕ)
    → Leads text limit issued position cycle path last end → Early end (issued_on text path)
path_early text limit issued position cycle [] last end leads p h = absurd h
path_early text limit issued position cycle (visit ∷ path) last end leads p h = grind (
  arith,
  path_early text limit issued (position_after text visit.row (turn issued (over_of text issued visit))) (over_of text
      issued visit) path last end leads.1 p,
  In-append_cases p (issued_in text visit) (issued_on text path) h,
  in_visit text visit p,
  over_later issued visit.start (row_of text visit.row).idle,
  end_late text limit issued (position_after text visit.row (turn issued (over_of text issued visit))) (over_of text
      issued visit) path last end leads.1,
)

-- and nothing behind a cycle that is broken
path_unbroken : (text : Text) (limit : ℕ) (issued : Issued) (position : Position) (cycle : ℕ) (path : List Visit)
    (last : Position) (end c : ℕ) (stop : Stop)
    → Leads text limit issued position cycle path last end → broken issued c ≡ Some stop
    → Early (c + 1) (issued_on text path)
path_unbroken text limit issued position cycle [] last end c stop leads e p h = absurd h
path_unbroken text limit issued position cycle (visit ∷ path) last end c stop leads e p h = grind (
  arith,
  path_unbroken text limit issued (position_after text visit.row (turn issued (over_of text issued visit))) (over_of
      text issued visit) path last end c stop leads.1 e p,
  In-append_cases p (issued_in text visit) (issued_on text path) h,
  in_visit text visit p,
  none-some stop,
)

issued_before : (text : Text) (first limit : ℕ) (opening : Machine) (stop : Stop) (cycles : ℕ) (final : Machine)
    (f : Flies text first limit opening stop cycles final) → Early cycles (issued_on text f.path)
issued_before text first limit opening stop cycles final f p h = by_stop f.stops
  where
    by_stop : Stops text limit (record { placed = issued_on text f.path; did = f.did }) f.last f.end stop cycles
        → p.cycle < cycles
    by_stop (inl b) =
        let e : cycles ≡ min (b.cycle + 1) f.end = b.told in
        let l : p.cycle < b.cycle + 1
        = path_unbroken text limit (record { placed = issued_on text f.path; did = f.did }) (At first) 0 f.path f.last
        f.end b.cycle stop f.leads b.breaks p h in
        let u : p.cycle < f.end = path_early text limit (record { placed = issued_on text f.path; did = f.did })
        (At first) 0 f.path f.last f.end f.leads p h in omega arith
    by_stop (inr e) =
        let told : cycles ≡ f.end = e.told in
        let l : p.cycle < f.end = path_early text limit (record { placed = issued_on text f.path; did = f.did })
        (At first) 0 f.path f.last f.end f.leads p h in omega arith

pub lands_in_four : (text : Text) (first limit : ℕ) (opening : Machine) (stop : Stop) (cycles : ℕ) (final : Machine)
    → LandsInFour text first limit opening stop cycles final
lands_in_four text first limit opening stop cycles final f = record {
  before = λ p c. (let l : p.cycle < cycles = issued_before text first limit opening stop cycles final f p
      (In_from_Contains p (issued_on text f.path) c) in omega arith);
  landed = λ p write c w. (
      let h : In p (issued_on text f.path) = In_from_Contains p (issued_on text f.path) c in
      let l : p.cycle < cycles = issued_before text first limit opening stop cycles final f p h in
      let d : write.0.1 ≤ 4 = lands_soon opening (record { placed = issued_on text f.path; did = f.did }) f.runs.run p h
      write (In_from_Contains write (f.did p).writes w) in omega arith);
}

-- ---- paths that go on

pub leads_front : (text : Text) (limit : ℕ) (one other : Issued) (position : Position) (cycle : ℕ) (path : List Visit)
    (last : Position) (end : ℕ)
    → AreSameUntil end one other → Leads text limit one position cycle path last end
    → Leads text limit other position cycle path last end
leads_front text limit one other position cycle [] last end same leads = leads
leads_front text limit one other position cycle (visit ∷ path) last end same leads =
    let when : cycle ≡ visit.start = leads.0.when in
    let l : over_of text one visit ≤ end
    = end_late text limit one (position_after text visit.row (turn one (over_of text one visit)))
    (over_of text one visit) path last end leads.1 in
    let u : visit.start < over_of text one visit = over_later one visit.start (row_of text visit.row).idle in
    let overs : over_of text one visit ≡ over_of text other visit
    = over_same one other visit.start (row_of text visit.row).idle
    (λ c a b. turn_same end c one other same (omega arith)) in
    let turns : turn one (over_of text one visit) ≡ turn other (over_of text other visit)
    = turn_same end (over_of text one visit) one other same (omega arith) ∙ ap (λ c. turn other c) overs in
    let rest : Leads text limit other (position_after text visit.row (turn one (over_of text one visit)))
    (over_of text one visit) path last end
    = leads_front text limit one other (position_after text visit.row (turn one (over_of text one visit)))
    (over_of text one visit) path last end same leads.1 in (
      record {
        there = leads.0.there;
        when = leads.0.when;
        on = sym (ended_same text limit end cycle one other position same (omega arith)) ∙ leads.0.on;
        whole = λ c a. sym (broken_same end c one other same (omega arith)) ∙ leads.0.whole c a;
      },
      subst (λ c. Leads text limit other (position_after text visit.row (turn other (over_of text other visit))) c path
          last end) overs
          (subst (λ o. Leads text limit other (position_after text visit.row o) (over_of text one visit) path last end)
          turns rest),
    )

pub leads_on : (text : Text) (limit : ℕ) (issued : Issued) (position middle : Position) (cycle t : ℕ)
    (path others : List Visit) (last : Position) (end : ℕ)
    → Leads text limit issued position cycle path middle t → Leads text limit issued middle t others last end
    → Leads text limit issued position cycle (path ++ others) last end
leads_on text limit issued position middle cycle t [] others last end one other = grind arith
leads_on text limit issued position middle cycle t (visit ∷ path) others last end one other = (
  one.0,
  leads_on text limit issued (position_after text visit.row (turn issued (over_of text issued visit))) middle
      (over_of text issued visit) t path others last end one.1 other,
)

-- ---- paths, so many cycles later

abbrev pub visit_later : ℕ → Visit → Visit
visit_later k visit = record { row = visit.row; start = k + visit.start }

insns_later : (k start : ℕ) (ps : List Placed) → map (issue_in (k + start)) ps ≡ map (moved k) (map (issue_in start) ps)
insns_later k start [] = refl
insns_later k start (p ∷ ps) = ap (λ (qs : List Placed). issue_in (k + start) p ∷ qs) (insns_later k start ps)

pub issued_later : (k : ℕ) (text : Text) (path : List Visit)
    → issued_on text (map (visit_later k) path) ≡ map (moved k) (issued_on text path)
issued_later k text [] = refl
issued_later k text (visit ∷ path) = grind (arith, nat_tests, issued_later k text path, insns_later, map-append)

pub late_by : (k : ℕ) (ps : List Placed) → Late k (map (moved k) ps)
late_by k ps p h = grind (arith, from_map (moved k) p ps h)

pub eqb-both : (k a b : ℕ) → eqb (k + a) (k + b) ≡ eqb a b
eqb-both k a b = grind arith

pub eqb-more : (k a d b : ℕ) → eqb (k + a + d) (k + b) ≡ eqb (a + d) b
eqb-more k a d b = let e : k + a + d ≡ k + (a + d) = omega arith in ap (λ n. eqb n (k + b)) e ∙ eqb-both k (a + d) b

pub leb-both : (k a b : ℕ) → leb (k + a) (k + b) ≡ leb a b
leb-both k a b = grind (arith, lt-leb a b, le-leb a b)
