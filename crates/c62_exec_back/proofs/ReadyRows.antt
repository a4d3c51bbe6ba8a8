-- Where the instruction of a line stands in the rows.
use Rattle.std.proofs.Common.{◌≡◌, ℕ, ◌+◌, Bool, true, false, ◌&&◌, cond, List, [], ◌∷◌, ◌++◌, length, Option, Some}
use Rattle.std.proofs.Common.{None, refl, sym, ◌∙◌, ap, subst, ◌⊎◌, inl, inr, arith, append-nil}
use Rattle.std.specs.Prelude.{map, is_none}
use Rattle.std.specs.Option.{option_to_list}
use Rattle.std.proofs.lemmas.Bool.{cases_Bool}
use Rattle.std.proofs.lemmas.List.{map-append, length-append}
use Rattle.c62_line.specs.Line.{Says, Nothing, Pause, Does, Jumps}
use Rattle.c62_read.specs.Program.{Name}
use Rattle.c62_adopt_line.specs.Line.{Line, line_said}
use Rattle.c62_adopt_cut.specs.Cut.{Place, begins_packet, cuts_of, cycle_at, cycles_of, first_of as packet_of}
use Rattle.c62_adopt_cut.specs.Cut.{is_branching, is_cut_behind, is_filled, last_packet, place_of, stand_of}
use Rattle.c62_adopt_cut.specs.Cut.{with_branch_cut, with_cut, with_label_cut}
use Rattle.c62_adopt_cut.specs.Blocks.{Drafts, all_drafts, with_label as with_draft}
use Rattle.c62_adopt_cut.specs.Home.{Home, homes_in}
use Rattle.c62_meaning.proofs.Lookup.{In, In-append_left}
use Rattle.c62_flight.specs.Text.{Row, no_row}
use Rattle.c62_rows.specs.Reading.{Reading, all_rows, at_line}
use Rattle.c62_exec_back.proofs.Beginnings.{begins, begins_end, begins_front, span, span_append}
use Rattle.c62_exec_back.proofs.Stood.{stood_from, empty_stood}
use Rattle.c62_exec_back.proofs.ReadRows.{IsOpen, labelled, begun_in, AreEarly, IsCutBy, AreRows, begun_stays}
use Rattle.c62_exec_back.proofs.ReadRows.{early_stays, early_more, labelled_more}

-- ---- where a line's instruction stands

-- how many cycles a line begins with
abbrev pub first_cycle : Line → ℕ
first_cycle line = cond (begins_packet line) 1 0

-- what is read where the line's instruction stands
pub record IsReady (above : List Line) (line : Line) (drafts : Drafts) (old new : Reading) : Type 0 where
  pub total : span (all_rows new) ≡ cycles_of above + first_cycle line
  pub stood : stood_from 0 (all_rows new) ≡ stood_from 0 (all_rows old)
  pub targets : new.targets ≡ old.targets
  pub words : new.words ≡ old.words
  pub filled : is_filled line.says ≡ true → (row : Row) × (new.current ≡ Some row)
      × (span new.done ≡ (stand_of above line).cycle)
  pub is_open : IsOpen new.done new.current (last_packet (line ∷ above))
  pub labels : labelled (all_drafts (with_draft line.label (stand_of above line).cycle drafts)) ≡ map
      (begun_in new.done) new.labels
  pub early : AreEarly new.done new.labels
  pub cuts : (cycle : ℕ) → In cycle (with_label_cut (place_of above line) (cuts_of above))
      → IsCutBy new.done (homes_in above) cycle

-- cuts
pub cut_stays : (done more : List Row) (homes : List Home) (cycle : ℕ) → IsCutBy done homes cycle
    → IsCutBy (done ++ more) homes cycle
cut_stays done more homes cycle (inr branch) = inr branch
cut_stays done more homes cycle (inl row) =
    inl (
      row.0,
      (let l = length-append done more in let inside = row.1 in omega (arith, l, inside)),
      begins_front done
          more row.0 row.1 ∙ row.2,
    )

pub cut_kept : (done : List Row) (homes more : List Home) (cycle : ℕ) → IsCutBy done homes cycle
    → IsCutBy done (homes ++ more) cycle
cut_kept done homes more cycle (inl row) = inl row
cut_kept done homes more cycle (inr branch) = inr (branch.0, In-append_left branch.0 homes more branch.1, branch.2)

pub branch_cuts : (place : Place) (cuts : List ℕ) (cycle : ℕ) → In cycle (with_branch_cut place cuts) → In cycle cuts
    ⊎ (cycle ≡ cycle_at (packet_of place.above place.line) + 6)
branch_cuts place cuts cycle h = elim (cases_Bool (is_branching place.line.says)) [
  | inr other ↦ inl (rw other at h)
  | inl branch ↦ behind (rw branch at h)
]
  where
    behind : In cycle (with_cut (cycle_at (packet_of place.above place.line)) cuts) → In cycle cuts
        ⊎ (cycle ≡ cycle_at (packet_of place.above place.line) + 6)
    behind h = elim (cases_Bool (is_cut_behind (cycle_at (packet_of place.above place.line)) cuts)) [
      | inl cut ↦ inl (rw cut at h)
      | inr first ↦ one (rw first at h)
    ]
      where
        one : In cycle ((cycle_at (packet_of place.above place.line) + 6) ∷ cuts) → In cycle cuts
            ⊎ (cycle ≡ cycle_at (packet_of place.above place.line) + 6)
        one (inl e) = inr (sym e)
        one (inr k) = inl k

module _ (above : List Line) (drafts : Drafts) (old : Reading) (are : AreRows above drafts old) where
  all_span : span (all_rows old) ≡ cycles_of above
  all_span = are.cycles

  filled_span : span (all_rows old ++ no_row ∷ []) ≡ cycles_of above + 1
  filled_span = let e = span_append (all_rows old) (no_row ∷ []) in let f = all_span in omega (arith, e, f)

  labels_closed : labelled (all_drafts drafts) ≡ map (begun_in (all_rows old)) old.labels
  labels_closed = are.labels ∙ sym (begun_stays old.done (option_to_list old.current) old.labels are.early)

  early_closed : AreEarly (all_rows old) old.labels
  early_closed = early_stays old.done (option_to_list old.current) old.labels are.early

  cuts_closed : (cycle : ℕ) → In cycle (cuts_of above) → IsCutBy (all_rows old) (homes_in above) cycle
  cuts_closed cycle h = cut_stays old.done (option_to_list old.current) (homes_in above) cycle (are.cuts cycle h)

  cuts_given : (cycle : ℕ) → In cycle (cycles_of above ∷ cuts_of above) → IsCutBy (all_rows old) (homes_in above) cycle
  cuts_given cycle (inr h) = cuts_closed cycle h
  cuts_given cycle (inl e) = inl (length (all_rows old), omega arith, begins_end (all_rows old) ∙ all_span ∙ e)

  closed_cuts : (cycle : ℕ) → In cycle (cycles_of above ∷ cuts_of above)
      → IsCutBy (all_rows old ++ []) (homes_in above) cycle
  closed_cuts cycle h = cut_stays (all_rows old) [] (homes_in above) cycle (cuts_given cycle h)

  -- with a label
  abbrev given : Name → List (Name × ℕ)
  given label = old.labels ++ (label, length (all_rows old)) ∷ []

  labels_given : (label : Name)
      → labelled (all_drafts (with_draft (Some label) (cycles_of above) drafts)) ≡ map (begun_in (all_rows old))
      (given label)
  labels_given label =
      let here : begins (all_rows old) (length (all_rows old)) ≡ cycles_of above = begins_end (all_rows old)
      ∙ all_span in
      labelled_more (all_drafts drafts) (Some label) (cycles_of above)
      ∙ ap (λ (front : List (Name × ℕ)). front ++ (label, cycles_of above) ∷ []) labels_closed
      ∙ ap (λ n. map (begun_in (all_rows old)) old.labels ++ (label, n) ∷ []) (sym here)
      ∙ sym (map-append (begun_in (all_rows old)) old.labels ((label, length (all_rows old)) ∷ []))

  early_given : (label : Name) → AreEarly (all_rows old) (given label)
  early_given label = early_more (all_rows old) old.labels label (length (all_rows old)) early_closed (omega arith)

  no_more : all_rows old ++ [] ≡ all_rows old
  no_more = append-nil (all_rows old)

  closed_labels : (label : Name)
      → labelled (all_drafts (with_draft (Some label) (cycles_of above) drafts)) ≡ map
      (begun_in (all_rows old ++ [])) (given label)
  closed_labels label = labels_given label ∙ ap (λ (rows : List Row). map (begun_in rows) (given label)) (sym no_more)

  closed_early : (label : Name) → AreEarly (all_rows old ++ []) (given label)
  closed_early label = subst (λ (rows : List Row). AreEarly rows (given label)) (sym no_more) (early_given label)

  closed_span : span (all_rows old ++ []) ≡ cycles_of above
  closed_span = ap span no_more ∙ all_span

  closed_filled : span ((all_rows old ++ []) ++ no_row ∷ []) ≡ cycles_of above + 1
  closed_filled = ap (λ (rows : List Row). span (rows ++ no_row ∷ [])) no_more ∙ filled_span

  closed_stood : stood_from 0 (all_rows old ++ []) ≡ stood_from 0 (all_rows old)
  closed_stood = ap (stood_from 0) no_more

  closed_empty : stood_from 0 ((all_rows old ++ []) ++ no_row ∷ []) ≡ stood_from 0 (all_rows old)
  closed_empty = ap (λ (rows : List Row). stood_from 0 (rows ++ no_row ∷ [])) no_more ∙ empty_stood (all_rows old)

  -- beside others
  abbrev IsJoined : Option Row → Option Place → Type 0
  IsJoined current place = (row : Row) × (current ≡ Some row)
      × ((p : Place) × (place ≡ Some p) × (cycle_at p ≡ span old.done))

  joins : (current : Option Row) (place : Option Place) → is_none current ≡ false → IsOpen old.done current place
      → IsJoined current place
  joins None place none is = absurd cc
  joins (Some row) None none is = absurd is
  joins (Some row) (Some p) none is = (row, refl, (p, refl, is))

  ready_alone : (says : Says) → begins_packet (line_said false None says) ≡ true → is_filled says ≡ true
      → IsReady above (line_said false None says) drafts old (at_line (line_said false None says) old)
  ready_alone says begins filled = rw begins (record {
    total = rw begins filled_span;
    stood = empty_stood (all_rows old);
    targets = refl;
    words = refl;
    filled = λ is. (no_row, refl, all_span);
    is_open = rw begins (sym all_span);
    labels = labels_closed;
    early = early_closed;
    cuts = cuts_closed;
  })

  ready_labelled : (label : Name) (says : Says) → begins_packet (line_said false (Some label) says) ≡ true
      → is_filled says ≡ true
      → IsReady above (line_said false (Some label) says) drafts old (at_line (line_said false (Some label) says) old)
  ready_labelled label says begins filled = rw begins (record {
    total = rw begins closed_filled;
    stood = closed_empty;
    targets = refl;
    words = refl;
    filled = λ is. (no_row, refl, closed_span);
    is_open = rw begins (sym closed_span);
    labels = closed_labels label;
    early = closed_early label;
    cuts = closed_cuts;
  })

  ready_beside : (says : Says) → (true && is_none old.current) ≡ false
      → begins_packet (line_said true None says) ≡ false
      → IsReady above (line_said true None says) drafts old (at_line (line_said true None says) old)
  ready_beside says free unfilled =
      let join = joins old.current (last_packet above) free are.is_open in
      rw unfilled (record {
        total = rw unfilled (let e = all_span in omega (arith, e));
        stood = refl;
        targets = refl;
        words = refl;
        filled = λ is. (join.0, join.1, (let p = join.2 in rw p.1 (sym p.2)));
        is_open = rw unfilled are.is_open;
        labels = are.labels;
        early = are.early;
        cuts = are.cuts;
      })

  pub ready : (beside : Bool) (label : Option Name) (says : Says) → (beside && is_none old.current) ≡ false
      → (beside ≡ true → label ≡ None)
      → IsReady above (line_said beside label says) drafts old (at_line (line_said beside label says) old)
  ready true (Some label) says free alone = let e : Some label ≡ None = alone refl in absurd cc
  ready true None Nothing free alone = ready_beside Nothing free refl
  ready true None (Pause n) free alone = ready_beside (Pause n) free refl
  ready true None (Does parts) free alone = ready_beside (Does parts) free refl
  ready true None (Jumps parts target) free alone = ready_beside (Jumps parts target) free refl
  ready false None Nothing free alone = record {
    total = let e = all_span in omega (arith, e);
    stood = refl;
    targets = refl;
    words = refl;
    filled = λ is. absurd cc;
    is_open = are.is_open;
    labels = are.labels;
    early = are.early;
    cuts = are.cuts;
  }
  ready false (Some label) Nothing free alone = record {
    total = let e = closed_span in omega (arith, e);
    stood = closed_stood;
    targets = refl;
    words = refl;
    filled = λ is. absurd cc;
    is_open = tt;
    labels = labels_given label;
    early = early_given label;
    cuts = cuts_given;
  }
  ready false None (Pause n) free alone = ready_alone (Pause n) refl refl
  ready false None (Does parts) free alone = ready_alone (Does parts) refl refl
  ready false None (Jumps parts target) free alone = ready_alone (Jumps parts target) refl refl
  ready false (Some label) (Pause n) free alone = ready_labelled label (Pause n) refl refl
  ready false (Some label) (Does parts) free alone = ready_labelled label (Does parts) refl refl
  ready false (Some label) (Jumps parts target) free alone = ready_labelled label (Jumps parts target) refl refl
