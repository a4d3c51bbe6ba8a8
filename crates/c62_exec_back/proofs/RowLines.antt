-- A line more of rows that are read.
use Rattle.std.proofs.Common.{◌≡◌, ℕ, ◌+◌, ◌-◌, ◌≤◌, Bool, true, false, ◌&&◌, List, [], ◌∷◌, ◌++◌, length, Option, Some}
use Rattle.std.proofs.Common.{None, refl, sym, ◌∙◌, ap, subst, inl, inr, arith, append-nil}
use Rattle.std.specs.Prelude.{slice_get, is_none}
use Rattle.std.specs.Option.{option_to_list}
use Rattle.std.proofs.lemmas.Bool.{cases_Bool, leb-true}
use Rattle.c62_line.specs.Line.{Parts, Says, Nothing, Pause, Does, Jumps}
use Rattle.c62_read.specs.Program.{Name}
use Rattle.c62_packet.specs.declared.placed.Placed.{Placed}
use Rattle.c62_adopt_line.specs.Line.{Line, line_said}
use Rattle.c62_adopt_cut.specs.Cut.{Place, cycles_added, cycles_of, last_packet, stand_of}
use Rattle.c62_adopt_cut.specs.Blocks.{Drafts, issue_at, with_line}
use Rattle.c62_adopt_cut.specs.Home.{home, homes_in, label_in}
use Rattle.c62_flight.specs.Text.{Row}
use Rattle.c62_rows.specs.Rows.{with_insn, with_idle}
use Rattle.c62_rows.specs.Reading.{Reading, all_rows, at_line, number_of, is_target, on_current, with_target, AddsSays}
use Rattle.c62_exec_back.proofs.Beginnings.{span, span_append}
use Rattle.c62_exec_back.proofs.Pauses.{lasts}
use Rattle.c62_exec_back.proofs.Stood.{stood_from, idle_stood}
use Rattle.c62_exec_back.proofs.ReadRows.{IsOpen, AreRows, has_place}
use Rattle.c62_exec_back.proofs.ReadyRows.{first_cycle, IsReady, ready}
use Rattle.c62_exec_back.proofs.DoneRows.{silent, acts}

-- ---- a line

abbrev Step : List Line → ℕ → Drafts → Line → Reading → Type 0
Step above number drafts line new = AreRows (line ∷ above) (with_line number (stand_of above line) line drafts) new

pause_cycles : (beside : Bool) (label : Option Name) (n : ℕ) (cycles : ℕ) → 1 ≤ n
    → cycles + cycles_added (line_said beside label (Pause n)) ≡ cycles + first_cycle (line_said beside label (Pause n))
    + (n - 1)
pause_cycles true label n cycles l = omega (arith, l)
pause_cycles false label n cycles l = omega (arith, l)

does_cycles : (beside : Bool) (label : Option Name) (parts : Parts) (cycles : ℕ)
    → cycles + cycles_added (line_said beside label (Does parts)) ≡ cycles + first_cycle
    (line_said beside label (Does parts))
does_cycles true label parts cycles = refl
does_cycles false label parts cycles = refl

jumps_cycles : (beside : Bool) (label : Option Name) (parts : Parts) (target : Name) (cycles : ℕ)
    → cycles + cycles_added (line_said beside label (Jumps parts target)) ≡ cycles + first_cycle
    (line_said beside label (Jumps parts target))
jumps_cycles true label parts target cycles = refl
jumps_cycles false label parts target cycles = refl

nothing_cycles : (beside : Bool) (label : Option Name) (cycles : ℕ)
    → cycles + first_cycle (line_said beside label Nothing) ≡ cycles + cycles_added (line_said beside label Nothing)
nothing_cycles true label cycles = refl
nothing_cycles false label cycles = refl

-- naming a label changes nothing else
pub record NamesTarget (target : Name) (number : ℕ) (old new : Reading) : Type 0 where
  pub more : List (Name × ℕ)
  pub targets : new.targets ≡ old.targets ++ more
  pub place : (line : ℕ) × (slice_get new.targets (number_of target old) ≡ Some (target, line))
  pub done : new.done ≡ old.done
  pub current : new.current ≡ old.current
  pub labels : new.labels ≡ old.labels
  pub words : new.words ≡ old.words

pub names_target : (target : Name) (number : ℕ) (old : Reading)
    → NamesTarget target number old (with_target target number old)
names_target target number old = elim (cases_Bool (is_target target old)) [
  | inl there ↦ rw there (record {
    more = [];
    targets = sym (append-nil old.targets);
    place = (let p = has_place target number old.targets in (p.0, rw there at p.1));
    done = refl;
    current = refl;
    labels = refl;
    words = refl;
  })
  | inr other ↦ rw other (record {
    more = (target, number) ∷ [];
    targets = refl;
    place = (let p = has_place target number old.targets in (p.0, rw other at p.1));
    done = refl;
    current = refl;
    labels = refl;
    words = refl;
  })
]

current_insn : (p : Placed) (row : Row) (old : Reading) → old.current ≡ Some row
    → (on_current (with_insn p) old).current ≡ Some (with_insn p row)
current_insn p row old e = rw e refl

current_idle : (more : ℕ) (row : Row) (old : Reading) → old.current ≡ Some row
    → (on_current (with_idle more) old).current ≡ Some (with_idle more row)
current_idle more row old e = rw e refl

module _ (above : List Line) (number : ℕ) (drafts : Drafts) (beside : Bool) (label : Option Name) (old new : Reading)
    (are : AreRows above drafts old)
    (free : (beside && is_none old.current) ≡ false) (alone : beside ≡ true
    → label ≡ None) (counted : number ≡ length above + 1) where
  abbrev line_of : Says → Line
  line_of says = line_said beside label says

  abbrev mid_of : Says → Reading
  mid_of says = at_line (line_of says) old

  is_ready : (says : Says) → IsReady above (line_of says) drafts old (mid_of says)
  is_ready says = ready above drafts old are beside label says free alone

  abbrev Stepped : Says → Type 0
  Stepped says = AddsSays number None says (mid_of says) new → Step above number drafts (line_of says) new

  nothing_steps : Stepped Nothing
  nothing_steps same =
      let mid : Reading = mid_of Nothing in
      let it : IsReady above (line_of Nothing) drafts old mid = is_ready Nothing in
      silent above number drafts (line_of Nothing) old mid are it counted new (append-nil (homes_in above))
      (ap (λ (r : Reading). r.targets) same) (ap (λ (r : Reading). r.labels) same)
      (ap (λ (r : Reading). r.words) same)
      (ap (λ (r : Reading). r.done) same)
      (subst (λ (r : Reading). IsOpen r.done r.current (last_packet (line_of Nothing ∷ above))) (sym same)
      it.is_open)
      (ap (λ (r : Reading). stood_from 0 (all_rows r)) same)
      (ap (λ (r : Reading). span (all_rows r)) same ∙ it.total ∙ nothing_cycles beside label (cycles_of above)) refl

  pause_steps : (n : ℕ) → 1 ≤ n → Stepped (Pause n)
  pause_steps n least same =
      let mid : Reading = mid_of (Pause n) in
      let it : IsReady above (line_of (Pause n)) drafts old mid = is_ready (Pause n) in
      let at_row = it.filled refl in
      let row : Row = at_row.0 in
      let now : new.current ≡ Some (with_idle (n - 1) row) = ap (λ (r : Reading). r.current) same
      ∙ current_idle (n - 1) row mid at_row.1 in
      let done : new.done ≡ mid.done = ap (λ (r : Reading). r.done) same in
      let after : all_rows new ≡ mid.done ++ with_idle (n - 1) row ∷ [] =
      ap (λ (rows : List Row). rows ++ option_to_list new.current) done
      ∙ ap (λ (current : Option Row). mid.done ++ option_to_list current) now in
      let before : all_rows mid ≡ mid.done ++ row ∷ [] = ap
      (λ (current : Option Row). mid.done ++ option_to_list current) at_row.1 in
      silent above number drafts (line_of (Pause n)) old mid are it counted new (append-nil (homes_in above))
      (ap (λ (r : Reading). r.targets) same)
      (ap (λ (r : Reading). r.labels) same) (ap (λ (r : Reading). r.words) same) done
      (subst (λ (rows : List Row). IsOpen rows new.current (last_packet (line_of (Pause n) ∷ above))) (sym done)
      (subst (λ (current : Option Row). IsOpen mid.done current (last_packet (line_of (Pause n) ∷ above))) (sym now)
      (still_open n row mid.done (last_packet (line_of (Pause n) ∷ above))
      (subst (λ (current : Option Row). IsOpen mid.done current (last_packet (line_of (Pause n) ∷ above))) at_row.1
      it.is_open))))
      (ap (stood_from 0) after ∙ idle_stood mid.done (n - 1) row ∙ sym (ap (stood_from 0) before))
      (ap span after
      ∙ (let e = span_append mid.done (with_idle (n - 1) row ∷ []) in let f = span_append mid.done (row ∷ []) in let g =
      it.total in let h = ap span before in
      let k = pause_cycles beside label n (cycles_of above) least in omega (arith, e, f, g, h, k))) refl
    where
      still_open : (n : ℕ) (row : Row) (done : List Row) (place : Option Place) → IsOpen done (Some row) place
          → IsOpen done (Some (with_idle (n - 1) row)) place
      still_open n row done None is = is
      still_open n row done (Some place) is = is

  does_steps : (parts : Parts) → Stepped (Does parts)
  does_steps parts adds =
      let mid : Reading = mid_of (Does parts) in
      let it : IsReady above (line_of (Does parts)) drafts old mid = is_ready (Does parts) in
      let at_row = it.filled refl in
      let p : Placed = adds.placed in
      acts above number drafts (line_of (Does parts)) old mid are it counted parts None p at_row.0 [] new
      (ap (λ (k : ℕ). homes_in above ++ home
      (label_in (stand_of above (line_of (Does parts))).start (line_of (Does parts) ∷ above))
      (stand_of above (line_of (Does parts))).start
      (issue_at (stand_of above (line_of (Does parts))) k parts None) ∷ []) (sym counted))
      (ap (λ (r : Reading). r.done) adds.adds) at_row.1 (ap (λ (r : Reading). r.current) adds.adds
      ∙ current_insn p at_row.0 mid at_row.1)
      (ap (λ (r : Reading). r.labels) adds.adds) (ap (λ (r : Reading). r.words) adds.adds)
      (ap (λ (r : Reading). r.targets) adds.adds ∙ sym (append-nil mid.targets)) at_row.2
      (does_cycles beside label parts (cycles_of above)) adds.is.line adds.is.unit adds.is.parts

  jumps_steps : (parts : Parts) (target : Name) → Stepped (Jumps parts target)
  jumps_steps parts target adds =
      let mid : Reading = mid_of (Jumps parts target) in
      let it : IsReady above (line_of (Jumps parts target)) drafts old mid = is_ready (Jumps parts target) in
      let at_row = it.filled refl in
      let p : Placed = adds.placed in
      let names : NamesTarget target number mid (with_target target number mid) = names_target target number mid in
      let targets : new.targets ≡ (with_target target number mid).targets = ap (λ (r : Reading). r.targets) adds.adds in
      acts above number drafts (line_of (Jumps parts target)) old mid are it counted parts (Some target) p at_row.0
      names.more new
      (ap (λ (k : ℕ). homes_in above ++ home
      (label_in (stand_of above (line_of (Jumps parts target))).start (line_of (Jumps parts target) ∷ above))
      (stand_of above (line_of (Jumps parts target))).start
      (issue_at (stand_of above (line_of (Jumps parts target))) k parts (Some target)) ∷ []) (sym counted))
      (ap (λ (r : Reading). r.done) adds.adds ∙ names.done) at_row.1
      (ap (λ (r : Reading). r.current) adds.adds
      ∙ current_insn p at_row.0 (with_target target number mid) (names.current ∙ at_row.1))
      (ap (λ (r : Reading). r.labels) adds.adds ∙ names.labels) (ap (λ (r : Reading). r.words) adds.adds
      ∙ names.words) (targets ∙ names.targets) at_row.2
      (jumps_cycles beside label parts target (cycles_of above)) adds.is.line adds.is.unit (
        number_of target mid,
        names.place.0,
        (ap (λ (ts : List (Name × ℕ)). slice_get ts (number_of target mid)) targets
            ∙ names.place.1),
        adds.is.parts,
      )

  pub line_steps : (says : Says) → lasts says ≡ true → Stepped says
  line_steps Nothing last = nothing_steps
  line_steps (Pause n) last = pause_steps n (leb-true 1 n last)
  line_steps (Does parts) last = does_steps parts
  line_steps (Jumps parts target) last = jumps_steps parts target

pub none_read : AreRows [] (record { done = []; current = None })
    (record { done = []; current = None; labels = []; targets = []; words = [] })
none_read = record {
  cycles = refl;
  is_open = tt;
  from = λ x h. absurd h;
  to = λ h there. absurd there;
  labels = refl;
  early = tt;
  words = refl;
  cuts = λ cycle h. absurd h;
}
