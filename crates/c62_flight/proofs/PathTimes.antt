-- When what is on a path is issued, and the run behind some cycle.
use Rattle.std.proofs.Common.{◌≡◌, ℕ, ◌<◌, ◌≤◌, List, [], ◌∷◌, ◌++◌, map, sym, ◌∙◌, inl, inr}
use Rattle.std.proofs.Common.{arith}
use Rattle.std.proofs.lemmas.Option.{none-some}
use Rattle.std.proofs.lemmas.List.{append_assoc}
use Rattle.c62_serial.specs.State.{Machine}
use Rattle.c62_packet.specs.declared.placed.Placed.{Placed}
use Rattle.c62_meaning.specs.Packet.{IsRun}
use Rattle.c62_meaning.proofs.Lookup.{In, In-append_cases}
use Rattle.c62_flight.specs.declared.stop.Stop.{Stop}
use Rattle.c62_flight.specs.Text.{Text, Position, row_of, position_after}
use Rattle.c62_flight.specs.Issued.{Visit, Issued, issue_in, issued_in, issued_on, turn, over_of}
use Rattle.c62_flight.specs.Broken.{broken}
use Rattle.c62_flight.specs.Flight.{ended, Begins, Leads, Stops}
use Rattle.c62_flight.proofs.Fronts.{Late, AreSameUntil, over_later, broken_same, ended_same}

-- ---- when what is issued on a path is issued

in_map : (cycle : ℕ) (ps : List Placed) (p : Placed) → In p (map (issue_in cycle) ps) → p.cycle ≡ cycle
in_map cycle [] p h = absurd h
in_map cycle (q ∷ ps) p h = grind (arith, in_map cycle ps p)

pub in_visit : (text : Text) (visit : Visit) (p : Placed) → In p (issued_in text visit) → p.cycle ≡ visit.start
in_visit text visit p h = in_map visit.start (row_of text visit.row).insns p h

pub path_late : (text : Text) (limit : ℕ) (issued : Issued) (position : Position) (cycle : ℕ) (path : List Visit)
    (last : Position) (end : ℕ)
    → Leads text limit issued position cycle path last end → Late cycle (issued_on text path)
path_late text limit issued position cycle [] last end leads p h = absurd h
path_late text limit issued position cycle (visit ∷ path) last end leads p h = grind (
  arith,
  path_late text limit issued (position_after text visit.row (turn issued (over_of text issued visit))) (over_of text
      issued visit) path last end leads.1 p,
  In-append_cases p (issued_in text visit) (issued_on text path) h,
  in_visit text visit p,
  over_later issued visit.start (row_of text visit.row).idle,
)

pub end_late : (text : Text) (limit : ℕ) (issued : Issued) (position : Position) (cycle : ℕ) (path : List Visit)
    (last : Position) (end : ℕ)
    → Leads text limit issued position cycle path last end → cycle ≤ end
end_late text limit issued position cycle [] last end leads = let e : end ≡ cycle = leads.1 in omega arith
end_late text limit issued position cycle (visit ∷ path) last end leads =
    let when : cycle ≡ visit.start = leads.0.when in
    let l : over_of text issued visit ≤ end
    = end_late text limit issued (position_after text visit.row (turn issued (over_of text issued visit)))
    (over_of text issued visit) path last end leads.1 in
    let u : visit.start < over_of text issued visit = over_later issued visit.start (row_of text visit.row).idle in
    omega arith

-- ---- a run from some cycle on

-- from a position in a cycle, this having been issued before, a run goes on so
pub record Goes (text : Text) (limit : ℕ) (opening : Machine) (front : List Placed) (position : Position) (cycle : ℕ)
    (path : List Visit) (stop : Stop) (cycles : ℕ) : Type 0 where
  pub issued : Issued
  pub is : issued.placed ≡ front ++ issued_on text path
  pub run : IsRun issued.placed opening issued.did
  pub last : Position
  pub end : ℕ
  pub leads : Leads text limit issued position cycle path last end
  pub stops : Stops text limit issued last end stop cycles

-- the same run, from when its first row is over
pub after : (text : Text) (limit : ℕ) (opening : Machine) (front : List Placed) (position : Position) (cycle : ℕ)
    (visit : Visit) (path : List Visit) (stop : Stop) (cycles : ℕ)
    (g : Goes text limit opening front position cycle (visit ∷ path) stop cycles)
    → Goes text limit opening (front ++ issued_in text visit)
    (position_after text visit.row (turn g.issued (over_of text g.issued visit))) (over_of text g.issued visit)
    path stop cycles
after text limit opening front position cycle visit path stop cycles g = grind (
  arith,
  append_assoc front (issued_in text visit) (issued_on text path),
)

-- ---- one stop

-- runs that stand in one place are stopped in one way, where the same cycles are broken
pub stops_one : (text : Text) (limit : ℕ) (one other : Issued) (last : Position) (end : ℕ) (stop stop' : Stop)
    (cycles cycles' : ℕ)
    → ((c : ℕ) → broken one c ≡ broken other c) → ended text limit one last end ≡ ended text limit other last end
    → Stops text limit one last end stop cycles → Stops text limit other last end stop' cycles' → (stop ≡ stop')
    × (cycles ≡ cycles')
stops_one text limit one other last end stop stop' cycles cycles' same ends h k = grind arith

-- a run that goes on is not stopped there
pub goes_on_past : (text : Text) (limit : ℕ) (one other : Issued) (position : Position) (cycle : ℕ) (visit : Visit)
    (stop : Stop) (cycles : ℕ)
    → AreSameUntil cycle one other → Begins text limit one position cycle visit
    → Stops text limit other position cycle stop cycles → ⊥
goes_on_past text limit one other position cycle visit stop cycles same begins (inl b) = grind (
  arith,
  none-some stop,
  broken_same cycle b.cycle one other same,
  ended_same text limit cycle cycle one other position same,
)
goes_on_past text limit one other position cycle visit stop cycles same begins (inr e) =
    none-some stop (sym begins.on ∙ ended_same text limit cycle cycle one other position same (omega arith) ∙ e.ends)
