-- The events of a text of packets, a row more.
use Rattle.std.proofs.Common.{◌≡◌, ◌∙◌, ℕ, suc, ◌+◌, ◌-◌, ◌*◌, ◌<◌, ◌≤◌, ◌⊎◌, Bool, true, List, [], ◌∷◌, ◌++◌}
use Rattle.std.proofs.Common.{length, map, Option}
use Rattle.std.proofs.Common.{None, Some, sym, ap, subst, inl, inr, arith}
use Rattle.std.specs.Prelude.{is_some}
use Rattle.std.specs.List.{list_any}
use Rattle.std.proofs.lemmas.List.{append-nil}
use Rattle.std.proofs.lemmas.Grind.{flat_map-append}
use Rattle.c62_serial.specs.State.{Machine}
use Rattle.c62_packet.specs.declared.placed.Placed.{Placed}
use Rattle.c62_meaning.proofs.Lookup.{In, In-append_cases}
use Rattle.c62_meaning.proofs.Runs.{the_run, the_run_runs, one_run}
use Rattle.c62_flight.specs.declared.stop.Stop.{Stop}
use Rattle.c62_flight.specs.Text.{Text, Position, At, row_of, IsIssuable}
use Rattle.c62_flight.specs.Issued.{Visit, issue_in, issued_in, issued_on}
use Rattle.c62_flight.proofs.Fronts.{Early}
use Rattle.c62_exec.specs.declared.run.Flown.{Flown}
use Rattle.c62_exec.specs.declared.underway.Passed.{Passed}
use Rattle.c62_exec.specs.declared.underway.Passed.TheVariants.{Broken}
use Rattle.c62_exec.specs.Step.{Way, Gone, gone, row_passes, clash_from, flown_from}
use Rattle.c62_exec.proofs.Loop.{goes, row_rises}
use Rattle.c62_exec.proofs.Paths.{FliesBy, Goes, IsAt, IsHurt, on_to, row_flies}
use Rattle.c62_exec.proofs.RowBegins.{row_in}
use Rattle.c62_exec.proofs.Soon.{soon_down}
use Rattle.c62_trace.specs.Event.{Event, Entry, entries}
use Rattle.c62_trace.proofs.Events.{events_same}
use Rattle.c62_traced.specs.Trace.{cycle_log, log_of}
use Rattle.c62_traced.specs.Row.{settling_log, row_log}
use Rattle.c62_traced.specs.Flight.{IsFlightLog}
use Rattle.c62_traced.proofs.Quiet.{settled_log}
use Rattle.c62_traced.proofs.Cycles.{told_to, told_is, whole_row}
use Rattle.c62_traced.proofs.Ranges.{range_more, range_same}

-- the events of so many cycles of a path
abbrev pub path_log : Text → Machine → List Visit → ℕ → List Entry
path_log text opening path count = log_of entries (issued_on text path) opening
    (the_run (issued_on text path) opening) count

-- A run stands there in a cycle, and the events of the cycles before it were told.
pub record IsTracedAt {T : Type 0} (tells : T → T → List Entry → Type 0) (text : Text) (first limit : ℕ)
    (opening : Machine) (position : Position) (cycle : ℕ) (way : Way) (old new : T) : Type 0 where
  pub path : List Visit
  pub there : IsAt text first limit opening path position cycle way
  pub told : tells old new (path_log text opening path cycle)

-- Some events were told, which are those of such a flight.
pub record IsToldFlight {T : Type 0} (tells : T → T → List Entry → Type 0) (text : Text) (first limit : ℕ)
    (opening : Machine) (stop : Stop) (cycles : ℕ) (final : Machine) (old new : T) : Type 0 where
  pub log : List Entry
  pub is : IsFlightLog text first limit opening stop cycles final log
  pub told : tells old new log

module _ (text : Text) (first limit : ℕ) (opening : Machine) (path : List Visit) where
  longer : (row cycle : ℕ) → issued_on text (on_to path row cycle)
      ≡ issued_on text path ++ map (issue_in cycle) (row_of text row).insns
  longer row cycle =
      flat_map-append (issued_in text) path (record { row = row; start = cycle } ∷ [])
      ∙ ap (λ ps. issued_on text path ++ ps) (append-nil (map (issue_in cycle) (row_of text row).insns))

  -- a row more
  pub traced_row : (row cycle : ℕ) (way now : Way) (passed : Passed)
      → IsIssuable text → IsAt text first limit opening path (At row) cycle way
      → gone passed now ≡ row_passes (row_of text row).insns (row_of text row).idle cycle way
      → path_log text opening path cycle ++ row_log (row_of text row).insns (row_of text row).idle cycle way
      ≡ path_log text opening (on_to path row cycle) (told_to passed)
  traced_row row cycle way now passed is there went =
      whole_row opening (issued_on text path) cycle way (row_of text row).insns there.standing
      (row_rises text row is) (row_of text row).idle
      ∙ ap (λ (ps : List Placed). log_of entries ps opening (the_run ps opening)
      (told_to (row_passes (row_of text row).insns (row_of text row).idle cycle way).passed)) (sym (longer row cycle))
      ∙ ap (λ (g : Gone). path_log text opening (on_to path row cycle) (told_to g.passed)) (sym went)

  -- all that was issued on the path is the flight's
  pub flight_told : (stop : Stop) (cycles : ℕ) (final : Machine)
      → FliesBy text first limit opening stop cycles final path
      → IsFlightLog text first limit opening stop cycles final (path_log text opening path (cycles + 4))
  flight_told stop cycles final by = record {
    flies = by.flies;
    is =
        ap (λ (p : List Visit). path_log text opening p (cycles + 4)) (sym by.by)
        ∙ range_same
        (cycle_log entries (issued_on text by.flies.path) opening
        (the_run (issued_on text by.flies.path) opening))
        (cycle_log entries (issued_on text by.flies.path) opening by.flies.did) 0 (cycles + 4)
        (λ t from to. ap (λ (es : List Event). entries t es)
        (events_same opening t (issued_on text by.flies.path) by.flies.did
        (the_run (issued_on text by.flies.path) opening)
        (λ p h. one_run (issued_on text by.flies.path) opening (the_run (issued_on text by.flies.path) opening)
        by.flies.did (the_run_runs (issued_on text by.flies.path) opening) by.flies.runs.run (suc p.cycle) p h
        (omega arith))));
  }

  -- the run came down where it stood
  pub traced_down : (position : Position) (end : ℕ) (stop : Stop) (way : Way) (flown : Flown)
      → IsAt text first limit opening path position end way
      → flown ≡ flown_from stop end (clash_from 4 end way.flight.slots)
      → path_log text opening path end ++ settling_log end 4 way.flight.slots
      ≡ path_log text opening path (flown.cycles + 4)
  traced_down position end stop way flown there f =
      ap (λ told. path_log text opening path end ++ told)
      (settled_log opening (issued_on text path) there.standing.ascends end (8 * end) way.flight way.machine
      there.standing.row.flying there.standing.early)
      ∙ sym (range_more (cycle_log entries (issued_on text path) opening
      (the_run (issued_on text path) opening)) end 4)
      ∙ ap (λ n. path_log text opening path (n + 4)) (sym (soon_down stop end way.flight.slots flown f))

  -- a cycle of a row was broken
  pub traced_broken : (row cycle : ℕ) (way now : Way) (at : ℕ) (stop : Stop)
      → IsIssuable text → IsAt text first limit opening path (At row) cycle way
      → (row < length text.rows) ⊎ (list_any is_some way.turns ≡ true) → cycle < limit
      → gone (Broken at stop) now ≡ row_passes (row_of text row).insns (row_of text row).idle cycle way
      → path_log text opening (on_to path row cycle) (at + 1) ++ settling_log (at + 1) 4 now.flight.slots
      ≡ path_log text opening (on_to path row cycle) (at + 1 + 4)
  traced_broken row cycle way now at stop is there on less went =
      let hurt : IsHurt text first limit opening (on_to path row cycle) at stop now =
      subst (λ (g : Gone). Goes text first limit opening path row cycle g.passed g.way) (sym went)
      (row_flies text first limit opening path row cycle way there
      (goes text first limit opening path row cycle way there on less) (row_rises text row is)) in
      let from : cycle + 1 ≤ at + 1 = subst (λ (n : ℕ). cycle + 1 ≤ n)
      (sym (told_is _ (row_of text row).idle cycle _) ∙ ap (λ (g : Gone). told_to g.passed) (sym went)) (omega arith) in
      let early : Early (at + 1) (issued_on text (on_to path row cycle)) =
      (λ p h. elim (In-append_cases p (issued_on text path) (map (issue_in cycle) (row_of text row).insns)
      (subst (λ ps. In p ps) (longer row cycle) h)) [
        | inl k ↦ (let u : p.cycle < cycle = there.standing.early p k in omega arith)
        | inr k ↦ (let e : p.cycle ≡ cycle = row_in cycle (row_of text row).insns p k in omega arith)
      ]) in
      ap (λ told. path_log text opening (on_to path row cycle) (at + 1) ++ told)
      (settled_log opening (issued_on text (on_to path row cycle)) hurt.ascends (at + 1) (8 * (at + 1)) now.flight
      now.machine hurt.flying early)
      ∙ sym (range_more (cycle_log entries (issued_on text (on_to path row cycle)) opening
      (the_run (issued_on text (on_to path row cycle)) opening)) (at + 1) 4)
