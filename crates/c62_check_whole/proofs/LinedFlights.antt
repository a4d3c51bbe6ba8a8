-- A flight of the same packets with other lines, and the places that faulted.
use Rattle.std.proofs.Common.{◌≡◌, ℕ, zero, suc, ◌+◌, Bool, true, false, List, [], ◌∷◌, ◌++◌, length, map}
use Rattle.std.proofs.Common.{Option, Some, None, refl, sym, ◌∙◌, ap, subst, inl, inr, arith}
use Rattle.std.specs.Prelude.{◌↔◌, slice_get, ◌==◌, ◌&&◌, ◌||◌}
use Rattle.std.specs.List.{list_any}
use Rattle.std.proofs.lemmas.Bool.{and_parts, eqb-true, false≢true}
use Rattle.std.proofs.lemmas.Bool.Decides.{nat_tests}
use Rattle.std.proofs.lemmas.List.{length-map}
use Rattle.c62_serial.specs.Effect.{Act, is_fault}
use Rattle.c62_serial.specs.Serial.{Ran}
use Rattle.c62_packet.specs.declared.placed.Placed.{Placed}
use Rattle.c62_meaning.specs.Packet.{Did}
use Rattle.c62_meaning.specs.Meaning.{IsMeaning, HasFaulted, exit_by}
use Rattle.c62_meaning.specs.Alike.{LeaveTheSame}
use Rattle.c62_meaning.proofs.Lookup.{In, In_from_Contains, Contains_from_In, In-flat_map, from_In-flat_map}
use Rattle.c62_meaning.proofs.CutWords.{from_map}
use Rattle.c62_meaning.proofs.Instances.{in_map}
use Rattle.c62_meaning.proofs.AlikeRuns.{mean_alike}
use Rattle.c62_meaning.proofs.SerialPackets.{has_one_meaning}
use Rattle.c62_flight.specs.Text.{Row, Text, At, row_of}
use Rattle.c62_flight.specs.Issued.{Visit, issue_in, issued_in, issued_on}
use Rattle.c62_loop.proofs.Apart.{any_in}
use Rattle.c62_loop.proofs.Lists.{at_place, place_of}
use Rattle.c62_loop_match.specs.Reading.{unlined}
use Rattle.c62_check_loop.specs.Relined.{AreRelined}
use Rattle.c62_check_whole.specs.Lined.{Places, StandsIn, FlyAlike}
use Rattle.c62_check_whole.proofs.Lines.{AllAlike, all_alike, issues_alike, row_same, leads_alike, stops_alike}

-- ---- where it faulted

abbrev faults_at : Did → ℕ → Option Placed → Bool
faults_at did start None = false
faults_at did start (Some p) = is_fault (did (issue_in start p)).access

abbrev faults_in : Text → Did → ℕ → ℕ → Visit → Bool
faults_in text did row position visit =
    (visit.row == row) && faults_at did visit.start (slice_get (row_of text row).insns position)

abbrev places_of : Text → Did → List Visit → Places
places_of text did path row position = list_any (faults_in text did row position) path

any_from : {X : Type 0} (f : X → Bool) (xs : List X) → list_any f xs ≡ true → (x : X) × In x xs × (f x ≡ true)
any_from f [] h = absurd (false≢true h)
any_from {X} f (x ∷ xs) h = by_test (f x) refl (any_from f xs) h
  where
    by_test : (b : Bool) → f x ≡ b → (list_any f xs ≡ true → (y : X) × In y xs × (f y ≡ true))
        → (b || list_any f xs) ≡ true → (y : X) × In y (x ∷ xs) × (f y ≡ true)
    by_test true e rest h = (x, inl refl, e)
    by_test false e rest h = let more = rest h in (more.0, inr more.1, more.2)

module _ (text : Text) (did : Did) (path : List Visit) where
  to_place : (line : ℕ) → HasFaulted (issued_on text path) did line → StandsIn text (places_of text did path) line
  to_place line f =
      let at = from_In-flat_map (issued_in text) f.placed path
      (In_from_Contains f.placed (issued_on text path) f.inside) in
      let visit : Visit = at.0 in
      let from = from_map (issue_in visit.start) f.placed (row_of text visit.row).insns at.2 in
      let k = place_of (row_of text visit.row).insns from.0 from.1 in
      let row_is : (visit.row == visit.row) ≡ true = grind (arith, nat_tests) in
      let faults : faults_at did visit.start (slice_get (row_of text visit.row).insns k.0) ≡ true
      = ap (λ (o : Option Placed). faults_at did visit.start o) k.1
      ∙ ap (λ (p : Placed). is_fault (did p).access) from.2 ∙ f.faults in
      record {
        row = visit.row;
        position = k.0;
        placed = from.0;
        stands = k.1;
        of_line = ap (λ (p : Placed). p.line) from.2 ∙ f.of_line;
        inside = any_in (faults_in text did visit.row k.0) visit path at.1
            (ap (λ (b : Bool). b && faults_at did visit.start (slice_get (row_of text visit.row).insns k.0)) row_is
            ∙ faults);
      }

  from_place : (line : ℕ) → StandsIn text (places_of text did path) line → HasFaulted (issued_on text path) did line
  from_place line s =
      let any = any_from (faults_in text did s.row s.position) path s.inside in
      let visit : Visit = any.0 in
      let parts = and_parts (visit.row == s.row)
      (faults_at did visit.start (slice_get (row_of text s.row).insns s.position)) any.2 in
      let same : visit.row ≡ s.row = eqb-true visit.row s.row parts.0 in
      let there : In s.placed (row_of text visit.row).insns
      = subst (λ (r : ℕ). In s.placed (row_of text r).insns) (sym same)
      (at_place (row_of text s.row).insns s.position s.placed s.stands) in
      record {
        placed = issue_in visit.start s.placed;
        inside = Contains_from_In (issue_in visit.start s.placed) (issued_on text path)
            (In-flat_map (issued_in text) (issue_in visit.start s.placed) visit path any.1
            (in_map (issue_in visit.start) s.placed (row_of text visit.row).insns there));
        of_line = s.of_line;
        faults = sym (ap (λ (o : Option Placed). faults_at did visit.start o) s.stands) ∙ parts.1;
      }

module _ (text other : Text) (relined : AreRelined text other) (did did' : Did) where
  abbrev Alike : List Placed → List Placed → Type 0
  Alike ps qs = AllAlike text other relined did did' ps qs

  -- of a row, and what stands behind it
  front_alike : (c : ℕ) (ps qs xs ys : List Placed) → length ps ≡ length qs
      → Alike (map (issue_in c) ps ++ xs) (map (issue_in c) qs ++ ys)
      → ((k : ℕ) → faults_at did c (slice_get ps k) ≡ faults_at did' c (slice_get qs k)) × Alike xs ys
  front_alike c [] [] xs ys long h = ((λ k. refl), h)
  front_alike c [] (q ∷ qs) xs ys long h = absurd (omega (arith, long))
  front_alike c (p ∷ ps) [] xs ys long h = absurd (omega (arith, long))
  front_alike c (p ∷ ps) (q ∷ qs) xs ys long h =
      let more = front_alike c ps qs xs ys (omega (arith, long)) h.2 in
      (by_place more.0, more.1)
    where
      by_place : ((k : ℕ) → faults_at did c (slice_get ps k) ≡ faults_at did' c (slice_get qs k))
          → (k : ℕ) → faults_at did c (slice_get (p ∷ ps) k) ≡ faults_at did' c (slice_get (q ∷ qs) k)
      by_place rest zero = ap (λ (a : Act). is_fault a.access) h.1
      by_place rest (suc k) = rest k

  places_alike : (path : List Visit) → Alike (issued_on text path) (issued_on other path) → (row position : ℕ)
      → places_of text did path row position ≡ places_of other did' path row position
  places_alike [] h row position = refl
  places_alike (visit ∷ path) h row position =
      let long : length (row_of text visit.row).insns ≡ length (row_of other visit.row).insns
      = sym (length-map (row_of text visit.row).insns unlined)
      ∙ ap (λ (r : Row). length r.insns) (row_same text other relined visit.row)
      ∙ length-map (row_of other visit.row).insns unlined in
      let parts = front_alike visit.start (row_of text visit.row).insns (row_of other visit.row).insns
      (issued_on text path) (issued_on other path) long h in
      ap (λ (b : Bool). b || list_any (faults_in text did row position) path)
      (by_row (visit.row == row) refl (parts.0 position))
      ∙ ap (λ (b : Bool). faults_in other did' row position visit || b) (places_alike path parts.1 row position)
    where
      by_row : (b : Bool) → (visit.row == row) ≡ b
          → faults_at did visit.start (slice_get (row_of text visit.row).insns position)
          ≡ faults_at did' visit.start (slice_get (row_of other visit.row).insns position)
          → (b && faults_at did visit.start (slice_get (row_of text row).insns position))
          ≡ (b && faults_at did' visit.start (slice_get (row_of other row).insns position))
      by_row true e same = subst (λ (r : ℕ). faults_at did visit.start (slice_get (row_of text r).insns position)
          ≡ faults_at did' visit.start (slice_get (row_of other r).insns position)) (eqb-true visit.row row e) same
      by_row false e same = refl

  stands_there : (path : List Visit) → Alike (issued_on text path) (issued_on other path) → (line : ℕ)
      → StandsIn other (places_of text did path) line ↔ StandsIn other (places_of other did' path) line
  stands_there path h line = (
    (λ s. record {
      row = s.row;
      position = s.position;
      placed = s.placed;
      stands = s.stands;
      of_line = s.of_line;
      inside = sym (places_alike path h s.row s.position) ∙ s.inside;
    }),
    (λ s. record {
      row = s.row;
      position = s.position;
      placed = s.placed;
      stands = s.stands;
      of_line = s.of_line;
      inside = places_alike path h s.row s.position ∙ s.inside;
    }),
  )

-- ---- the flight

pub fly_alike : (text other : Text) → FlyAlike text other
fly_alike text other relined first limit opening stop cycles final sound lineless f =
    let ps : List Placed = issued_on text f.path in
    let qs : List Placed = issued_on other f.path in
    let ran : Ran = record { machine = final; exit = exit_by f.did ps } in
    let one : IsMeaning ps (cycles + 4) opening ran = record {
      did = f.did;
      run = f.runs.run;
      leaves = record { state = f.runs.leaves; exit = refl };
    } in
    let has = has_one_meaning qs (cycles + 4) opening sound in
    let two : IsMeaning qs (cycles + 4) opening has.ran = has.is in
    let same = issues_alike text other relined f.path in
    let alike : LeaveTheSame ps qs f.did two.did ran has.ran
    = mean_alike ps qs (cycles + 4) same opening opening ran has.ran refl one two in
    let h : AllAlike text other relined f.did two.did ps qs
    = all_alike text other relined f.did two.did ps qs same alike.acts in
    record {
      left = has.ran.machine;
      flies = record {
        path = f.path;
        did = two.did;
        runs = record { run = two.run; leaves = two.leaves.state };
        last = f.last;
        end = f.end;
        leads = leads_alike text other relined f.did two.did limit ps qs h (At first) 0 f.path f.last f.end f.leads;
        stops = stops_alike text other relined f.did two.did limit ps qs h f.last f.end stop cycles lineless f.stops;
      };
      machine = alike.machine;
      places = places_of text f.did f.path;
      faulted = λ line. (
        (λ c. elim ((f.runs.leaves.faults line).0 c) [
          | inl old ↦ inl old
          | inr new ↦ inr (to_place text f.did f.path line new)
        ]),
        (λ c. (f.runs.leaves.faults line).1
            (elim c [
              | inl old ↦ inl old
              | inr new ↦ inr (from_place text f.did f.path line new)
            ])),
      );
      others_faulted = λ line. (
        (λ c. elim ((two.leaves.state.faults line).0 c) [
          | inl old ↦ inl old
          | inr new ↦ inr
              ((stands_there text other relined f.did two.did f.path h line).1
              (to_place other two.did f.path line new))
        ]),
        (λ c. (two.leaves.state.faults line).1
            (elim c [
              | inl old ↦ inl old
              | inr new ↦ inr (from_place other two.did f.path line
                  ((stands_there text other relined f.did two.did f.path h line).0 new))
            ])),
      );
    }
