-- The faults of a text of packets in flight, a row more.
use Rattle.std.proofs.Common.{◌≡◌, ◌∙◌, ℕ, ◌+◌, ◌*◌, List, [], ◌∷◌, ◌++◌, length, map, refl, sym, ap, subst, inl, inr}
use Rattle.std.proofs.Common.{arith}
use Rattle.std.specs.List.{flat_map}
use Rattle.std.specs.Option.{option_to_list}
use Rattle.std.proofs.lemmas.List.{append-nil}
use Rattle.std.proofs.lemmas.List.Sums.{fold-append}
use Rattle.std.proofs.lemmas.Grind.{flat_map-append}
use Rattle.c62_serial.specs.State.{Machine}
use Rattle.c62_serial.specs.Effect.{Act}
use Rattle.c62_packet.specs.declared.placed.Placed.{Placed}
use Rattle.c62_meaning.specs.Packet.{Did, IsRun}
use Rattle.c62_meaning.proofs.Lookup.{In, In-append_right}
use Rattle.c62_meaning.proofs.Runs.{the_run, the_run_runs}
use Rattle.c62_pipe.specs.Flight.{act_at}
use Rattle.c62_pipe.proofs.Flying.{does}
use Rattle.c62_flight.specs.declared.stop.Stop.{Stop}
use Rattle.c62_flight.specs.Text.{Text, Position, At, row_of}
use Rattle.c62_flight.specs.Issued.{Visit, issue_in, issued_in, issued_on}
use Rattle.c62_flight.proofs.Fronts.{Early, Late}
use Rattle.c62_exec.specs.Step.{Way}
use Rattle.c62_exec.proofs.Extended.{did_same, extended}
use Rattle.c62_exec.proofs.Paths.{FliesBy, IsAt, on_to}
use Rattle.c62_exec.proofs.RowBegins.{row_in}
use Rattle.c62_faulted.specs.declared.fault.Fault.{Fault}
use Rattle.c62_faulted.specs.Faulted.{fault_by, with_fault, with_faults}
use Rattle.c62_faulted_packets.specs.Done.{entry_of, faults_at, faults_done}
use Rattle.c62_faulted_packets.specs.Flight.{FindsFlightFaults}
use Rattle.c62_faulted_packets.proofs.Done.{done_append, done_once, done_same}

-- these are the first faults on a path
abbrev pub AreNoted : Text → Machine → List Visit → List Fault → Type 0
AreNoted text opening path told =
    told ≡ with_faults [] (faults_done (the_run (issued_on text path) opening) (issued_on text path))

-- A run stands there in a cycle, and the first faults on its path were noted.
pub record IsNotedAt (text : Text) (first limit : ℕ) (opening : Machine) (position : Position) (cycle : ℕ) (way : Way)
    (told : List Fault) : Type 0 where
  pub path : List Visit
  pub there : IsAt text first limit opening path position cycle way
  pub noted : AreNoted text opening path told

-- ---- a packet

-- instructions that are issued do what they do on the machine
issued_do : (did : Did) (machine : Machine) (cycle : ℕ) (ps : List Placed)
    → ((p : Placed) → In p ps → did (issue_in cycle p) ≡ act_at p machine)
    → faults_done did (map (issue_in cycle) ps) ≡ faults_at machine ps
issued_do did machine cycle [] same = refl
issued_do did machine cycle (p ∷ ps) same =
    ap (λ (act : Act). option_to_list (fault_by (entry_of p) act.access) ++ faults_done did (map (issue_in cycle) ps))
    (same p (inl refl))
    ∙ ap (λ (faults : List Fault). option_to_list (fault_by (entry_of p) (act_at p machine).access) ++ faults)
    (issued_do did machine cycle ps (λ q h. same q (inr h)))

in_map : (cycle : ℕ) (p : Placed) (ps : List Placed) → In p ps → In (issue_in cycle p) (map (issue_in cycle) ps)
in_map cycle p [] h = absurd h
in_map cycle p (q ∷ ps) (inl e) = inl (ap (issue_in cycle) e)
in_map cycle p (q ∷ ps) (inr h) = inr (in_map cycle p ps h)

module _ (text : Text) (first limit : ℕ) (opening : Machine) where
  -- a row more
  pub noted_row : (path : List Visit) (row cycle : ℕ) (way : Way) (told now : List Fault)
      → IsAt text first limit opening path (At row) cycle way → AreNoted text opening path told
      → now ≡ with_faults told (faults_at way.machine (row_of text row).insns)
      → AreNoted text opening (on_to path row cycle) now
  noted_row path row cycle way told now there noted adds =
      adds
      ∙ ap (λ faults. with_faults faults (faults_at way.machine insns)) noted
      ∙ ap (λ faults. with_faults (with_faults [] (faults_done (the_run block opening) block)) faults)
      (sym (issued_do (the_run (block ++ new) opening) way.machine cycle insns acts))
      ∙ ap (λ faults. with_faults (with_faults [] faults) (faults_done (the_run (block ++ new) opening) new))
      (sym (done_same (the_run (block ++ new) opening) (the_run block opening) block
      (did_same opening cycle block new there.standing.early late)))
      ∙ sym (fold-append with_fault [] (faults_done (the_run (block ++ new) opening) block)
      (faults_done (the_run (block ++ new) opening) new))
      ∙ ap (λ faults. with_faults [] faults) (sym (done_append (the_run (block ++ new) opening) block new))
      ∙ ap (λ ps. with_faults [] (faults_done (the_run ps opening) ps)) (sym longer)
    where
      insns : List Placed
      insns = (row_of text row).insns

      block : List Placed
      block = issued_on text path

      new : List Placed
      new = map (issue_in cycle) (row_of text row).insns

      longer : issued_on text (on_to path row cycle) ≡ block ++ new
      longer = flat_map-append (issued_in text) path (record { row = row; start = cycle } ∷ [])
          ∙ ap (λ ps. issued_on text path ++ ps) (append-nil (map (issue_in cycle) (row_of text row).insns))

      late : Late cycle (map (issue_in cycle) (row_of text row).insns)
      late p h = let e : p.cycle ≡ cycle = row_in cycle (row_of text row).insns p h in omega arith

      acts : (p : Placed) → In p (row_of text row).insns
          → the_run (issued_on text path ++ map (issue_in cycle) (row_of text row).insns) opening (issue_in cycle p)
          ≡ act_at p way.machine
      acts p h =
          sym (does (block ++ new) opening cycle (length block) (8 * cycle) way.flight way.machine (issue_in cycle p)
          (extended opening cycle block new there.standing.early late way.flight way.machine
          there.standing.row.flying)
          (In-append_right (issue_in cycle p) block new (in_map cycle p (row_of text row).insns h)) refl)

  pub noted_start : (way : Way) (told : List Fault) → IsAt text first limit opening [] (At first) 0 way → told ≡ []
      → IsNotedAt text first limit opening (At first) 0 way told
  noted_start way told there none = record { path = []; there = there; noted = none }

  -- the run is over
  pub noted_flight : (path : List Visit) (told : List Fault) (stop : Stop) (cycles : ℕ) (final : Machine)
      → AreNoted text opening path told → FliesBy text first limit opening stop cycles final path
      → FindsFlightFaults text first limit opening told
  noted_flight path told stop cycles final noted by = record {
    stop = stop;
    cycles = cycles;
    final = final;
    flies = by.flies;
    first_each =
        subst (λ (p : List Visit). AreNoted text opening p told) (sym by.by) noted
        ∙ ap (λ faults. with_faults [] faults)
        (done_once (issued_on text by.flies.path) opening (the_run (issued_on text by.flies.path) opening) by.flies.did
        (the_run_runs (issued_on text by.flies.path) opening) by.flies.runs.run);
  }
