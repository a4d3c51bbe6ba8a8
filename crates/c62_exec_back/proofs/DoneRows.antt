-- What a line does to the rows.
use Rattle.std.proofs.Common.{◌≡◌, ℕ, ◌+◌, List, [], ◌∷◌, ◌++◌, length, Option, Some, None, refl, sym, ◌∙◌, ap, subst}
use Rattle.std.proofs.Common.{◌⊎◌, inl, inr, arith}
use Rattle.std.specs.Prelude.{map}
use Rattle.std.specs.Option.{option_to_list}
use Rattle.c62_insn.specs.Insn.{unit_of}
use Rattle.c62_line.specs.Line.{Parts, parts_of}
use Rattle.c62_read.specs.Program.{Name}
use Rattle.c62_packet.specs.declared.placed.Placed.{Placed}
use Rattle.c62_adopt_line.specs.Line.{Line}
use Rattle.c62_adopt_cut.specs.declared.clock.Stand.{Stand}
use Rattle.c62_adopt_cut.specs.Cut.{Place, cuts_of, cycles_of, last_packet, place_of, stand_of, with_label_cut}
use Rattle.c62_adopt_cut.specs.Blocks.{Drafts, all_drafts, issue_at, with_label as with_draft, with_line}
use Rattle.c62_adopt_cut.specs.Home.{Home, home, homes_in, label_in}
use Rattle.c62_adopt_cut.proofs.StandLemmas.{stand_low}
use Rattle.c62_meaning.proofs.Lookup.{In, In-append_left, In-append_right, In-append_cases}
use Rattle.c62_flight.specs.Text.{Row}
use Rattle.c62_rows.specs.Rows.{with_insn}
use Rattle.c62_rows.specs.Reading.{Reading, all_rows, at_line}
use Rattle.c62_exec_back.proofs.Beginnings.{span, span_append}
use Rattle.c62_exec_back.proofs.Stood.{Stood, stood_at, stood_from, more_stood, stood_more}
use Rattle.c62_exec_back.proofs.ReadRows.{IsPartsOf, IsOf, IsOpen, labelled, begun_in, AreEarly, IsCutBy, AreRows}
use Rattle.c62_exec_back.proofs.ReadRows.{stays, labelled_says}
use Rattle.c62_exec_back.proofs.ReadyRows.{first_cycle, IsReady, cut_kept, branch_cuts, ready}

-- ---- what the line does there

module _ (above : List Line) (number : ℕ) (drafts : Drafts) (line : Line) (old mid : Reading)
    (are : AreRows above drafts old) (ready : IsReady above line drafts old mid)
    (counted : number ≡ length above + 1) where
  abbrev stand : Stand
  stand = stand_of above line

  abbrev block : Option Name
  block = label_in stand.start (line ∷ above)

  -- an instruction that stands on these rows stood on the old ones
  was : (x : Stood) → In x (stood_from 0 (all_rows mid)) → In x (stood_from 0 (all_rows old))
  was x h = subst (In x) ready.stood h

  is_still : (x : Stood) → In x (stood_from 0 (all_rows old)) → In x (stood_from 0 (all_rows mid))
  is_still x h = subst (In x) (sym ready.stood) h

  labels_said : labelled (all_drafts (with_line number stand line drafts)) ≡ map (begun_in mid.done) mid.labels
  labels_said = labelled_says number stand line.says (with_draft line.label stand.cycle drafts) ∙ ready.labels

  -- no instruction
  pub silent : (new : Reading) → homes_in (line ∷ above) ≡ homes_in above → new.targets ≡ mid.targets
      → new.labels ≡ mid.labels → new.words ≡ mid.words → new.done ≡ mid.done
      → IsOpen new.done new.current (last_packet (line ∷ above))
      → stood_from 0 (all_rows new) ≡ stood_from 0 (all_rows mid)
      → span (all_rows new) ≡ cycles_of (line ∷ above)
      → cuts_of (line ∷ above) ≡ with_label_cut (place_of above line) (cuts_of above)
      → AreRows (line ∷ above) (with_line number stand line drafts) new
  silent new none targets labels words done is_open stood cycles same_cuts = record {
    cycles = cycles;
    is_open = is_open;
    from = λ x h.
        (let r = are.from x (was x (subst (In x) stood h)) in (
          r.0,
          subst (In r.0) (sym none) r.1,
          subst (λ (ts : List (Name × ℕ)). IsOf ts r.0 x) (sym (targets
              ∙ ready.targets)) r.2,
        ));
    to = λ h there.
        (let r = are.to h (subst (In h) none there) in (
          r.0,
          subst (In r.0) (sym stood) (is_still r.0 r.1),
          subst (λ (ts : List (Name × ℕ)). IsOf ts h r.0)
              (sym (targets ∙ ready.targets)) r.2,
        ));
    labels = labels_said ∙ ap (λ (rows : List Row). map (begun_in rows) mid.labels) (sym done)
        ∙ ap (map (begun_in new.done)) (sym labels);
    early = subst (λ (rows : List Row). AreEarly rows new.labels) (sym done)
        (subst (AreEarly mid.done) (sym labels) ready.early);
    words = words ∙ ready.words ∙ are.words;
    cuts = λ cycle h. subst (λ (rows : List Row). IsCutBy rows (homes_in (line ∷ above)) cycle) (sym done)
        (subst (λ (homes : List Home). IsCutBy mid.done homes cycle) (sym none)
        (ready.cuts cycle (subst (In cycle) same_cuts h)));
  }

  abbrev own_of : Parts → Option Name → Home
  own_of parts target = home block stand.start (issue_at stand number parts target)

  -- an instruction that joins the open row
  pub acts : (parts : Parts) (target : Option Name) (p : Placed) (row : Row) (more : List (Name × ℕ)) (new : Reading)
      → homes_in (line ∷ above) ≡ homes_in above ++ home block stand.start (issue_at stand number parts target) ∷ []
      → new.done ≡ mid.done → mid.current ≡ Some row → new.current ≡ Some (with_insn p row) → new.labels ≡ mid.labels
      → new.words ≡ mid.words → new.targets ≡ mid.targets ++ more
      → span mid.done ≡ stand.cycle → cycles_of (line ∷ above) ≡ cycles_of above + first_cycle line
      → p.line ≡ number → unit_of p.insn ≡ Some p.unit → IsPartsOf new.targets target parts (parts_of p.insn)
      → AreRows (line ∷ above) (with_line number stand line drafts) new
  acts parts target p row more new homes done at_row now labels words targets here long at_line unit is_parts = record {
    cycles = (let e = span_append mid.done (with_insn p row ∷ []) in let f = span_append mid.done (row ∷ []) in
        let g = ready.total in let old_rows = ap span rows_before in
        ap span rows_after ∙ omega (arith, e, f, g, old_rows, long));
    is_open = subst (λ (rows : List Row). IsOpen rows new.current (last_packet (line ∷ above))) (sym done)
        (subst (λ (current : Option Row). IsOpen mid.done current (last_packet (line ∷ above))) (sym now)
        (still_open (last_packet (line ∷ above))
        (subst (λ (current : Option Row). IsOpen mid.done current (last_packet (line ∷ above))) at_row
        ready.is_open)));
    from = λ x h. from_new x
        (more_stood mid.done p row x (subst (λ (rows : List Row). In x (stood_from 0 rows)) rows_after h));
    to = λ h there. to_new h
        (In-append_cases h (homes_in above) ((own_of parts target) ∷ []) (subst (In h) homes there));
    labels = labels_said ∙ ap (λ (rows : List Row). map (begun_in rows) mid.labels) (sym done)
        ∙ ap (map (begun_in new.done)) (sym labels);
    early = subst (λ (rows : List Row). AreEarly rows new.labels) (sym done)
        (subst (AreEarly mid.done) (sym labels) ready.early);
    words = words ∙ ready.words ∙ are.words;
    cuts = λ cycle h. subst (λ (rows : List Row). IsCutBy rows (homes_in (line ∷ above)) cycle) (sym done)
        (subst (λ (all : List Home). IsCutBy mid.done all cycle) (sym homes)
        (cut_new cycle (branch_cuts (place_of above line) (with_label_cut (place_of above line) (cuts_of above)) cycle
        h)));
  }
    where
      cut_new : (cycle : ℕ) → In cycle (with_label_cut (place_of above line) (cuts_of above))
          ⊎ (cycle ≡ stand.cycle + 6) → IsCutBy mid.done (homes_in above ++ (own_of parts target) ∷ []) cycle
      cut_new cycle (inl h) = cut_kept mid.done (homes_in above) ((own_of parts target) ∷ []) cycle (ready.cuts cycle h)
      cut_new cycle (inr e) =
          inr (
            (own_of parts target),
            In-append_right (own_of parts target) (homes_in above)
                ((own_of parts target) ∷ []) (inl refl),
            (let low = stand_low above line in omega (arith, e, low)),
          )

      rows_after : all_rows new ≡ mid.done ++ with_insn p row ∷ []
      rows_after = ap (λ (rows : List Row). rows ++ option_to_list new.current) done
          ∙ ap (λ (current : Option Row). mid.done ++ option_to_list current) now

      rows_before : all_rows mid ≡ mid.done ++ row ∷ []
      rows_before = ap (λ (current : Option Row). mid.done ++ option_to_list current) at_row

      still_open : (place : Option Place) → IsOpen mid.done (Some row) place
          → IsOpen mid.done (Some (with_insn p row)) place
      still_open None is = is
      still_open (Some place) is = is

      is_own : IsOf new.targets (own_of parts target) (stood_at (span mid.done) p)
      is_own = record {
        line = at_line;
        when = (let low = stand_low above line in omega (arith, here, low));
        unit = unit;
        parts = is_parts;
      }

      kept : (h : Home) (x : Stood) → IsOf old.targets h x → IsOf new.targets h x
      kept h x is = subst (λ (ts : List (Name × ℕ)). IsOf ts h x) (sym (targets
          ∙ ap (λ (ts : List (Name × ℕ)). ts ++ more) ready.targets)) (stays old.targets more h x is)

      from_new : (x : Stood) → (x ≡ stood_at (span mid.done) p) ⊎ In x (stood_from 0 (mid.done ++ row ∷ []))
          → (h : Home) × In h (homes_in (line ∷ above)) × IsOf new.targets h x
      from_new x (inl e) = (
        (own_of parts target),
        subst (In (own_of parts target)) (sym homes)
            (In-append_right (own_of parts target) (homes_in above) ((own_of parts target) ∷ []) (inl refl)),
        subst
            (IsOf new.targets (own_of parts target)) (sym e) is_own,
      )
      from_new x (inr there) =
          let old = subst (λ (rows : List Row). In x (stood_from 0 rows)) (sym rows_before) there in
          let r = are.from x (was x old) in (
            r.0,
            subst (In r.0) (sym homes) (In-append_left r.0 (homes_in above) ((own_of parts target) ∷ []) r.1),
            kept
                r.0 x r.2,
          )

      to_new : (h : Home) → In h (homes_in above) ⊎ In h ((own_of parts target) ∷ []) → (x : Stood)
          × In x (stood_from 0 (all_rows new)) × IsOf new.targets h x
      to_new h (inl there) =
          let r = are.to h there in (
            r.0,
            subst (λ (rows : List Row). In r.0 (stood_from 0 rows)) (sym rows_after)
                (stood_more mid.done p row r.0
                (inr (subst (λ (rows : List Row). In r.0 (stood_from 0 rows)) rows_before (is_still r.0 r.1)))),
            kept h r.0 r.2,
          )
      to_new h (inr (inr none)) = absurd none
      to_new h (inr (inl e)) = (
        stood_at (span mid.done) p,
        subst (λ (rows : List Row). In (stood_at (span mid.done) p) (stood_from 0 rows)) (sym rows_after)
            (stood_more mid.done p row (stood_at (span mid.done) p) (inl refl)),
        subst (λ (k : Home). IsOf new.targets k (stood_at (span mid.done) p)) e is_own,
      )
