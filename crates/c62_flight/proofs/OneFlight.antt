-- A text has one flight.
use Rattle.std.proofs.Common.{◌≡◌, ℕ, suc, ◌+◌, ◌<◌, ◌≤◌, List, [], ◌∷◌, ◌++◌, refl, sym, ◌∙◌, ap, subst, inl, inr}
use Rattle.std.proofs.Common.{arith}
use Rattle.std.proofs.lemmas.List.{append_assoc}
use Rattle.c62_serial.specs.State.{Machine}
use Rattle.c62_packet.specs.declared.placed.Placed.{Placed}
use Rattle.c62_meaning.specs.Packet.{Did}
use Rattle.c62_meaning.specs.Cut.{RunsTo}
use Rattle.c62_meaning.proofs.Lookup.{In-append_cases}
use Rattle.c62_meaning.proofs.Runs.{one_run}
use Rattle.c62_meaning.proofs.SerialPackets.{state_one}
use Rattle.c62_meaning.proofs.JoinedRuns.{runs_alike}
use Rattle.c62_flight.specs.declared.stop.Stop.{Stop}
use Rattle.c62_flight.specs.Text.{Text, Position, At, row_of, position_after}
use Rattle.c62_flight.specs.Issued.{Visit, issued_in, issued_on, turn, over, over_of}
use Rattle.c62_flight.specs.Flight.{Stops, Flies}
use Rattle.c62_flight.specs.Laws.{Outcome, FliesTo}
use Rattle.c62_flight.proofs.Fronts.{Late, Early, AreSameUntil, same_until, turn_same, over_later, over_same}
use Rattle.c62_flight.proofs.Fronts.{broken_same, ended_same}
use Rattle.c62_flight.proofs.PathTimes.{in_visit, path_late, Goes, after, stops_one, goes_on_past}

-- ---- one path

pub record AreOne (path path' : List Visit) (stop stop' : Stop) (cycles cycles' : ℕ) : Type 0 where
  pub paths : path ≡ path'
  pub stops : stop ≡ stop'
  pub times : cycles ≡ cycles'

module _ (text : Text) (limit : ℕ) (opening : Machine) where
  alike : (t : ℕ) (front : List Placed) (position : Position) (cycle : ℕ) (path path' : List Visit) (stop stop' : Stop)
      (cycles cycles' : ℕ) → Early cycle front
      → (g : Goes text limit opening front position cycle path stop cycles)
      (h : Goes text limit opening front position cycle path' stop' cycles')
      → Late t (issued_on text path) → Late t (issued_on text path') → AreSameUntil t g.issued h.issued
  alike t front position cycle path path' stop stop' cycles cycles' early g h late late' =
      same_until opening t cycle front (issued_on text path) (issued_on text path') g.issued h.issued early
      (path_late text limit g.issued position cycle path g.last g.end g.leads)
      (path_late text limit h.issued position cycle path' h.last h.end h.leads)
      late late' g.is h.is g.run h.run

  pub early_after : (front : List Placed) (visit : Visit) (cycle over : ℕ) → Early cycle front → cycle ≡ visit.start
      → visit.start < over
      → Early over (front ++ issued_in text visit)
  early_after front visit cycle over early when l p h =
      elim (In-append_cases p front (issued_in text visit) h) [
        | inl k ↦ (let u : p.cycle < cycle = early p k in omega arith)
        | inr k ↦ (let e : p.cycle ≡ visit.start = in_visit text visit p k in omega arith)
      ]

  one_row : (row row' : ℕ) (position : Position) → position ≡ At row → position ≡ At row' → row' ≡ row
  one_row row row' position e e' = cc

  one_visit : (visit visit' : Visit) → visit'.row ≡ visit.row → visit'.start ≡ visit.start → visit' ≡ visit
  one_visit visit visit' e e' = grind arith

  -- what is issued behind a first row is issued when it is over, or later
  rest_late : (front : List Placed) (position : Position) (cycle : ℕ) (visit : Visit) (path : List Visit) (stop : Stop)
      (cycles : ℕ)
      (g : Goes text limit opening front position cycle (visit ∷ path) stop cycles)
      → Late (over_of text g.issued visit) (issued_on text path)
  rest_late front position cycle visit path stop cycles g =
      path_late text limit g.issued (position_after text visit.row (turn g.issued (over_of text g.issued visit)))
      (over_of text g.issued visit) path g.last g.end g.leads.1

  -- runs that begin with one row
  module _ (front : List Placed) (position : Position) (cycle : ℕ) (visit : Visit) (path path' : List Visit)
      (stop stop' : Stop) (cycles cycles' : ℕ) (early : Early cycle front)
      (g : Goes text limit opening front position cycle (visit ∷ path) stop cycles)
      (h : Goes text limit opening front position cycle (visit ∷ path') stop' cycles') where
    alike_behind : (c : ℕ) → c ≤ over_of text g.issued visit → c ≤ over_of text h.issued visit
        → AreSameUntil c g.issued h.issued
    alike_behind c l u =
        let late : Late (over_of text g.issued visit) (issued_on text path) = rest_late front position cycle visit path
        stop cycles g in
        let late' : Late (over_of text h.issued visit) (issued_on text path') = rest_late front position cycle visit
        path' stop' cycles' h in
        let more : visit.start < over_of text g.issued visit = over_later g.issued visit.start
        (row_of text visit.row).idle in
        let more' : visit.start < over_of text h.issued visit = over_later h.issued visit.start
        (row_of text visit.row).idle in
        same_until opening c (suc visit.start) (front ++ issued_in text visit) (issued_on text path)
        (issued_on text path') g.issued h.issued
        (early_after front visit cycle (suc visit.start) early g.leads.0.when (omega arith))
        (λ p k. let a : over_of text g.issued visit ≤ p.cycle = late p k in omega arith)
        (λ p k. let a : over_of text h.issued visit ≤ p.cycle = late' p k in omega arith)
        (λ p k. let a : over_of text g.issued visit ≤ p.cycle = late p k in omega arith)
        (λ p k. let a : over_of text h.issued visit ≤ p.cycle = late' p k in omega arith)
        (g.is ∙ sym (append_assoc front (issued_in text visit) (issued_on text path)))
        (h.is ∙ sym (append_assoc front (issued_in text visit) (issued_on text path')))
        g.run h.run

    over_one : over_of text g.issued visit ≡ over_of text h.issued visit
    over_one =
        over_same g.issued h.issued visit.start (row_of text visit.row).idle
        (λ c l u. turn_same c c g.issued h.issued (alike_behind c l u) (omega arith))

    turn_one : turn g.issued (over_of text g.issued visit) ≡ turn h.issued (over_of text h.issued visit)
    turn_one =
        turn_same (over_of text g.issued visit) (over_of text g.issued visit) g.issued h.issued
        (alike_behind (over_of text g.issued visit) (omega arith)
        (subst (λ c. over_of text g.issued visit ≤ c) over_one (omega arith))) (omega arith)
        ∙ ap (λ c. turn h.issued c) over_one

    -- the second goes on where and when the first does
    second_after : Goes text limit opening (front ++ issued_in text visit)
        (position_after text visit.row (turn g.issued (over_of text g.issued visit)))
        (over_of text g.issued visit) path' stop' cycles'
    second_after = grind (
      arith,
      over_one,
      turn_one,
      after text limit opening front position cycle visit path' stop' cycles' h,
    )

  -- where the run stands that has no row more
  stops_there : (front : List Placed) (position : Position) (cycle : ℕ) (stop : Stop) (cycles : ℕ)
      (g : Goes text limit opening front position cycle [] stop cycles)
      → Stops text limit g.issued position cycle stop cycles
  stops_there front position cycle stop cycles g = grind arith

  pub one_path : (path path' : List Visit) (front : List Placed) (position : Position) (cycle : ℕ) (stop stop' : Stop)
      (cycles cycles' : ℕ) → Early cycle front
      → Goes text limit opening front position cycle path stop cycles
      → Goes text limit opening front position cycle path' stop' cycles'
      → AreOne path path' stop stop' cycles cycles'
  one_path [] [] front position cycle stop stop' cycles cycles' early g h =
      let same : (t : ℕ) → AreSameUntil t g.issued h.issued
      = λ t. alike t front position cycle [] [] stop stop' cycles cycles' early g h (λ p k. absurd k) (λ p k. absurd k)
      in
      let r : (stop ≡ stop') × (cycles ≡ cycles')
      = stops_one text limit g.issued h.issued position cycle stop stop' cycles cycles'
      (λ c. broken_same (suc c) c g.issued h.issued (same (suc c)) (omega arith))
      (ended_same text limit cycle cycle g.issued h.issued position (same cycle) (omega arith))
      (stops_there front position cycle stop cycles g) (stops_there front position cycle stop' cycles' h) in
      record { paths = refl; stops = r.0; times = r.1 }
  one_path (visit ∷ path) [] front position cycle stop stop' cycles cycles' early g h =
      absurd (goes_on_past text limit g.issued h.issued position cycle visit stop' cycles'
      (alike cycle front position cycle (visit ∷ path) [] stop stop' cycles cycles' early g h
      (path_late text limit g.issued position cycle (visit ∷ path) g.last g.end g.leads) (λ p k. absurd k))
      g.leads.0 (stops_there front position cycle stop' cycles' h))
  one_path [] (visit ∷ path) front position cycle stop stop' cycles cycles' early g h =
      absurd (goes_on_past text limit h.issued g.issued position cycle visit stop cycles
      (alike cycle front position cycle (visit ∷ path) [] stop' stop cycles' cycles early h g
      (path_late text limit h.issued position cycle (visit ∷ path) h.last h.end h.leads) (λ p k. absurd k))
      h.leads.0 (stops_there front position cycle stop cycles g))
  one_path (visit ∷ path) (visit' ∷ path') front position cycle stop stop' cycles cycles' early g h =
      let e : visit' ≡ visit
      = one_visit visit visit' (one_row visit.row visit'.row position g.leads.0.there h.leads.0.there)
      (sym h.leads.0.when ∙ g.leads.0.when) in
      let h' : Goes text limit opening front position cycle (visit ∷ path') stop' cycles'
      = subst (λ v. Goes text limit opening front position cycle (v ∷ path') stop' cycles') e h in
      let r : AreOne path path' stop stop' cycles cycles'
      = one_path path path' (front ++ issued_in text visit)
      (position_after text visit.row (turn g.issued (over_of text g.issued visit)))
      (over_of text g.issued visit) stop stop' cycles cycles'
      (early_after front visit cycle (over_of text g.issued visit) early g.leads.0.when
      (over_later g.issued visit.start (row_of text visit.row).idle))
      (after text limit opening front position cycle visit path stop cycles g)
      (second_after front position cycle visit path path' stop stop' cycles cycles' early g h') in
      record { paths = ap (λ v. v ∷ path) (sym e) ∙ ap (λ ps. visit' ∷ ps) r.paths; stops = r.stops; times = r.times }

-- ---- one machine

whole_flight : (text : Text) (first limit : ℕ) (opening : Machine) (stop : Stop) (cycles : ℕ) (final : Machine)
    (f : Flies text first limit opening stop cycles final)
    → Goes text limit opening [] (At first) 0 f.path stop cycles
whole_flight text first limit opening stop cycles final f = grind arith

-- two runs of the same leave the same
one_left : (ps : List Placed) (cycles : ℕ) (opening : Machine) (did did' : Did) (final final' : Machine)
    → RunsTo ps cycles opening did final → RunsTo ps cycles opening did' final' → final' ≡ final
one_left ps cycles opening did did' final final' r r' =
    state_one ps cycles opening did final' final
    (runs_alike ps cycles opening did' did final'
    (λ p h. one_run ps opening did' did r'.run r.run (suc p.cycle) p h (omega arith)) r').leaves r.leaves

pub one_flight : (text : Text) (first limit : ℕ) (opening : Machine) (one other : Outcome)
    → FliesTo text first limit opening one → FliesTo text first limit opening other → other ≡ one
one_flight text first limit opening one other f g =
    let r : AreOne f.path g.path one.stop other.stop one.cycles other.cycles
    = one_path text limit opening f.path g.path [] (At first) 0 one.stop other.stop one.cycles other.cycles
    (λ p k. absurd k)
    (whole_flight text first limit opening one.stop one.cycles one.final f)
    (whole_flight text first limit opening other.stop other.cycles other.final g) in
    let final : other.final ≡ one.final
    = one_left (issued_on text f.path) (one.cycles + 4) opening f.did g.did one.final other.final f.runs
    (subst (λ c. RunsTo (issued_on text f.path) (c + 4) opening g.did other.final) (sym r.times)
    (subst (λ path. RunsTo (issued_on text path) (other.cycles + 4) opening g.did other.final) (sym r.paths) g.runs)) in
    ap (λ stop. record { stop = stop; cycles = other.cycles; final = other.final }) (sym r.stops)
    ∙ ap (λ cycles. record { stop = one.stop; cycles = cycles; final = other.final }) (sym r.times)
    ∙ ap (λ final. record { stop = one.stop; cycles = one.cycles; final = final }) final
