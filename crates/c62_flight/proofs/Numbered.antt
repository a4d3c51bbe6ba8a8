-- Texts that are the same but for the numbers of labels fly the same.
use Rattle.std.proofs.Common.{◌≡◌, ℕ, suc, ◌+◌, List, [], sym, ◌∙◌, inl, inr, arith}
use Rattle.std.proofs.lemmas.List.{append-nil}
use Rattle.c62_serial.specs.State.{Machine}
use Rattle.c62_packet.specs.declared.placed.Placed.{Placed}
use Rattle.c62_meaning.specs.Packet.{Did, IsRun}
use Rattle.c62_meaning.specs.Meaning.{LeavesState}
use Rattle.c62_meaning.proofs.Lookup.{In}
use Rattle.c62_meaning.proofs.Runs.{the_run, the_run_runs, one_run}
use Rattle.c62_meaning.proofs.SerialPackets.{state_same}
use Rattle.c62_flight.specs.declared.stop.Stop.{Stop}
use Rattle.c62_flight.specs.Text.{Text, At}
use Rattle.c62_flight.specs.Issued.{issued_on}
use Rattle.c62_flight.specs.Broken.{broken}
use Rattle.c62_flight.specs.Flight.{ended, Leads, Stops, Flies}
use Rattle.c62_flight.specs.Numbered.{FlyTheSame}
use Rattle.c62_flight.proofs.Fronts.{AreSameUntil, broken_same, ended_same}
use Rattle.c62_flight.proofs.LaterPaths.{leads_front}
use Rattle.c62_flight.proofs.AlikeActs.{AllAlike, DoAlike, issued_alike, words_alike, bytes_alike, runs_alike}
use Rattle.c62_flight.proofs.AlikeFlights.{leads_alike, stops_alike, faulted_alike}

-- ---- a flight by the run of its path

-- the same, done by another run
by_run : (text : Text) (first limit : ℕ) (opening : Machine) (stop : Stop) (cycles : ℕ) (final : Machine)
    (f : Flies text first limit opening stop cycles final) (did : Did) → IsRun (issued_on text f.path) opening did
    → Leads text limit (record { placed = issued_on text f.path; did = did }) (At first) 0 f.path f.last f.end
    × Stops text limit (record { placed = issued_on text f.path; did = did }) f.last f.end stop cycles
    × LeavesState (issued_on text f.path) (cycles + 4) opening did final
by_run text first limit opening stop cycles final f did run = (
  leads_front text limit (record { placed = issued_on text f.path; did = f.did })
      (record { placed = issued_on text f.path; did = did }) (At first) 0 f.path f.last f.end (same f.end) f.leads,
  stopped f.stops,
  state_same (issued_on text f.path) (cycles + 4) opening f.did did final one f.runs.leaves,
)
  where
    one : (p : Placed) → In p (issued_on text f.path) → f.did p ≡ did p
    one p h = one_run (issued_on text f.path) opening f.did did f.runs.run run (suc p.cycle) p h (omega arith)

    same : (t : ℕ) → AreSameUntil t (record { placed = issued_on text f.path; did = f.did })
        (record { placed = issued_on text f.path; did = did })
    same t = record {
      front = issued_on text f.path;
      one_rest = [];
      other_rest = [];
      one_is = sym (append-nil (issued_on text f.path));
      other_is = sym (append-nil (issued_on text f.path));
      one_late = λ p h. absurd h;
      other_late = λ p h. absurd h;
      same = one;
    }

    broke : (c : ℕ) → broken (record { placed = issued_on text f.path; did = f.did }) c ≡ broken
        (record { placed = issued_on text f.path; did = did }) c
    broke c = broken_same (suc c) c (record { placed = issued_on text f.path; did = f.did })
        (record { placed = issued_on text f.path; did = did }) (same (suc c)) (omega arith)

    ends : ended text limit (record { placed = issued_on text f.path; did = f.did }) f.last f.end ≡ ended text limit
        (record { placed = issued_on text f.path; did = did }) f.last f.end
    ends = ended_same text limit f.end f.end (record { placed = issued_on text f.path; did = f.did })
        (record { placed = issued_on text f.path; did = did }) f.last (same f.end) (omega arith)

    stopped : Stops text limit (record { placed = issued_on text f.path; did = f.did }) f.last f.end stop cycles
        → Stops text limit (record { placed = issued_on text f.path; did = did }) f.last f.end stop cycles
    stopped h = grind (arith, broke, ends)

pub fly_the_same : (text other : Text) → FlyTheSame text other
fly_the_same text other same first limit opening stop cycles final f =
    let ps : List Placed = issued_on text f.path in
    let qs : List Placed = issued_on other f.path in
    let h : AllAlike text other ps qs = issued_alike text other same f.path in
    let acts : DoAlike text other (the_run ps opening) (the_run qs opening) = runs_alike text other ps qs opening h in
    let r = by_run text first limit opening stop cycles final f (the_run ps opening) (the_run_runs ps opening) in
    record {
      path = f.path;
      did = the_run qs opening;
      last = f.last;
      end = f.end;
      leads = leads_alike text other (the_run ps opening) (the_run qs opening) acts limit ps qs h same (At first) 0
          f.path f.last f.end r.0;
      stops = stops_alike text other (the_run ps opening) (the_run qs opening) acts limit ps qs h same f.last f.end stop
          cycles r.1;
      runs = record {
        run = the_run_runs qs opening;
        leaves = record {
          sound = r.2.sound;
          base = r.2.base;
          words = λ reg. r.2.words reg
              ∙ words_alike text other ps qs opening (the_run ps opening) (the_run qs opening) (cycles + 4) reg h
              acts;
          bytes = λ a l. r.2.bytes a l
              ∙ bytes_alike text other ps qs opening (the_run ps opening) (the_run qs opening) (cycles + 4) a h
              acts;
          faults = λ line. (
            (λ c. elim ((r.2.faults line).0 c) [
              | inl q ↦ inl q
              | inr q ↦ inr
                  ((faulted_alike text other (the_run ps opening) (the_run qs opening) acts ps qs line h).0 q)
            ]),
            (λ c. (r.2.faults line).1
                (elim c [
                  | inl q ↦ inl q
                  | inr q ↦ inr
                      ((faulted_alike text other (the_run ps opening) (the_run qs opening) acts ps qs line h).1 q)
                ])),
          );
        };
      };
    }
