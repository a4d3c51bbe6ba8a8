-- Two parts of a flight as one.
use Rattle.std.proofs.Common.{◌≡◌, ℕ, ◌+◌, List, [], ◌++◌, map, refl, sym, ◌∙◌, ap, subst, arith}
use Rattle.std.proofs.lemmas.List.{append-nil}
use Rattle.std.proofs.lemmas.Grind.{flat_map-append}
use Rattle.c62_serial.specs.State.{Machine}
use Rattle.c62_serial.specs.Effect.{Act}
use Rattle.c62_packet.specs.declared.placed.Placed.{Placed}
use Rattle.c62_meaning.specs.Packet.{Did}
use Rattle.c62_meaning.specs.Cut.{moved, behind, joined, RunsTo}
use Rattle.c62_meaning.proofs.Lookup.{In, In_from_Contains, Contains_from_In}
use Rattle.c62_meaning.proofs.JoinedRuns.{joined_early, joined_late, joined_landed, joins}
use Rattle.c62_flight.specs.declared.stop.Stop.{Stop}
use Rattle.c62_flight.specs.Text.{Text, At}
use Rattle.c62_flight.specs.Issued.{Visit, Issued, issued_in, issued_on}
use Rattle.c62_flight.specs.Broken.{IsWholeBefore}
use Rattle.c62_flight.specs.Flight.{Leads, Stops, Flies}
use Rattle.c62_flight.specs.Cut.{IsCut, FliesOn}
use Rattle.c62_flight.proofs.Fronts.{AreSameUntil, broken_same}
use Rattle.c62_flight.proofs.LaterPaths.{leads_front, leads_on, visit_later, issued_later, late_by}
use Rattle.c62_flight.proofs.CutFlights.{IsParted, leads_behind, stops_behind}

-- ---- both parts as one flight

module _ (text : Text) (first more : ℕ) (opening : Machine) (row k : ℕ) (middle : Machine)
    (cut : IsCut text first (k + more) opening row k middle) (stop : Stop) (cycles : ℕ) (final : Machine)
    (flies : Flies text row more middle stop cycles final) where
  abbrev front : List Placed
  front = issued_on text cut.path

  abbrev rest : List Placed
  rest = issued_on text flies.path

  -- what both did
  abbrev did : Did
  did = joined k cut.did flies.did

  abbrev all : Issued
  all = record { placed = behind k front rest; did = did }

  abbrev whole_path : List Visit
  whole_path = cut.path ++ map (visit_later k) flies.path

  front_same : (p : Placed) → In p front → cut.did p ≡ did p
  front_same p h = sym (joined_early k cut.did flies.did p (cut.drained.all.before p (Contains_from_In p front h)))

  parted : IsParted k front rest did flies.did
  parted = record {
    drained = record {
      all = joined_landed k front cut.did flies.did cut.drained.all;
      branches = λ p target c e. cut.drained.branches p target c
          (ap (λ (a : Act). a.target) (front_same p (In_from_Contains p front c)) ∙ e);
    };
    same = λ p h. joined_late k cut.did flies.did p;
  }

  same_front : AreSameUntil k (record { placed = front; did = cut.did }) all
  same_front = record {
    front = front;
    one_rest = [];
    other_rest = map (moved k) rest;
    one_is = sym (append-nil front);
    other_is = refl;
    one_late = λ p h. absurd h;
    other_late = late_by k rest;
    same = front_same;
  }

  all_whole : IsWholeBefore all k
  all_whole c l = sym (broken_same k c (record { placed = front; did = cut.did }) all same_front l) ∙ cut.whole c l

  all_leads : Leads text (k + more) all (At first) 0 whole_path flies.last (k + flies.end)
  all_leads =
      let e : k + 0 ≡ k = omega arith in
      leads_on text (k + more) all (At first) (At row) 0 k cut.path (map (visit_later k) flies.path) flies.last
      (k + flies.end)
      (leads_front text (k + more) (record { placed = front; did = cut.did }) all (At first) 0 cut.path (At row) k
      same_front cut.leads)
      (subst (λ n. Leads text (k + more) all (At row) n (map (visit_later k) flies.path) flies.last (k + flies.end)) e
      (leads_behind k front rest did flies.did parted text more all_whole (At row) 0 flies.path flies.last flies.end
      flies.leads))

  all_runs : RunsTo (behind k front rest) (k + cycles + 4) opening did final
  all_runs =
      let e : k + (cycles + 4) ≡ k + cycles + 4 = omega arith in
      subst (λ n. RunsTo (behind k front rest) n opening did final) e
      (joins k front rest opening middle (cycles + 4) cut.did flies.did final cut.drained.all cut.runs flies.runs)

  one_whole : Flies text first (k + more) opening stop (k + cycles) final
  one_whole =
      let is : behind k front rest ≡ issued_on text whole_path
      = ap (λ (ps : List Placed). front ++ ps) (sym (issued_later k text flies.path))
      ∙ sym (flat_map-append (issued_in text) cut.path (map (visit_later k) flies.path)) in
      record {
        path = whole_path;
        did = did;
        runs = subst (λ ps. RunsTo ps (k + cycles + 4) opening did final) is all_runs;
        last = flies.last;
        end = k + flies.end;
        leads = subst (λ ps. Leads text (k + more) (record { placed = ps; did = did }) (At first) 0 whole_path
            flies.last (k + flies.end)) is all_leads;
        stops = subst (λ ps. Stops text (k + more) (record { placed = ps; did = did }) flies.last (k + flies.end) stop
            (k + cycles)) is
            (stops_behind k front rest did flies.did parted text more all_whole flies.last flies.end stop cycles
            flies.stops);
      }

pub flies_on : (text : Text) (first more : ℕ) (opening : Machine) (row cycle : ℕ) (middle : Machine)
    → FliesOn text first more opening row cycle middle
flies_on text first more opening row cycle middle cut stop cycles final flies = one_whole text first more opening row
    cycle middle cut stop cycles final flies
