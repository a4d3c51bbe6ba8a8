-- What rows that are read say of the lines above, and the labels in them.
use Rattle.std.proofs.Common.{◌≡◌, ℕ, zero, suc, ◌+◌, ◌≤◌, Bool, true, false, cond, List, [], ◌∷◌, ◌++◌, length, Option}
use Rattle.std.proofs.Common.{Some, None, refl, sym, ◌∙◌, ap, ◌⊎◌, inl, inr, arith, append-nil}
use Rattle.std.specs.Prelude.{map, slice_get, is_some}
use Rattle.std.specs.List.{flat_map, position_or_len}
use Rattle.std.specs.Map.{keys_of, lookup}
use Rattle.std.specs.Option.{option_to_list}
use Rattle.std.specs.Str.{bytes_eq}
use Rattle.std.proofs.lemmas.Bool.{cases_Bool}
use Rattle.std.proofs.lemmas.List.{length-append}
use Rattle.std.proofs.lemmas.List.Concat.{flat_map-append}
use Rattle.std.proofs.lemmas.Slice.Eq.{bytes_eq-Decides}
use Rattle.c62_insn.specs.Insn.{unit_of}
use Rattle.c62_line.specs.Line.{Parts, parts_of, Says, Nothing, Pause, Does, Jumps}
use Rattle.c62_read.specs.Program.{Name}
use Rattle.c62_listing_reader.specs.Said.{aimed_parts}
use Rattle.c62_adopt_line.specs.Line.{Line}
use Rattle.c62_adopt_cut.specs.declared.clock.Stand.{Stand}
use Rattle.c62_adopt_cut.specs.Cut.{Place, cuts_of, cycle_at, cycles_of, last_packet}
use Rattle.c62_adopt_cut.specs.Blocks.{Draft, Drafts, Issue, add_issue, all_drafts, issue_at, new_draft, opened}
use Rattle.c62_adopt_cut.specs.Blocks.{begins_at, with_issue, with_says}
use Rattle.c62_adopt_cut.specs.Home.{Home, homes_in}
use Rattle.c62_meaning.proofs.Lookup.{In}
use Rattle.c62_flight.specs.Text.{Row}
use Rattle.c62_rows.specs.Reading.{Reading, all_rows}
use Rattle.c62_exec_back.proofs.Beginnings.{begins, begins_front, span}
use Rattle.c62_exec_back.proofs.Stood.{Stood, stood_from}

-- ---- what is read of lines

-- the parts of an instruction of a line, its branch to a label aimed at the place that this has among those that are
-- named
abbrev pub IsPartsOf : List (Name × ℕ) → Option Name → Parts → Parts → Type 0
IsPartsOf targets None parts other = other ≡ parts
IsPartsOf targets (Some target) parts other =
    (number : ℕ) × (line : ℕ) × (slice_get targets number ≡ Some (target, line)) × (other ≡ aimed_parts number parts)

-- the instruction of a line, where it stands
pub record IsOf (targets : List (Name × ℕ)) (h : Home) (x : Stood) : Type 0 where
  pub line : x.placed.line ≡ h.issue.line
  pub when : x.cycle ≡ h.start + h.issue.cycle
  pub unit : unit_of x.placed.insn ≡ Some x.placed.unit
  pub parts : IsPartsOf targets h.issue.target h.issue.parts (parts_of x.placed.insn)

-- the open row begins where the last packet stands
abbrev pub IsOpen : List Row → Option Row → Option Place → Type 0
IsOpen done None None = Unit {0}
IsOpen done (Some row) (Some place) = cycle_at place ≡ span done
IsOpen done _ _ = ⊥

-- the labels of blocks, each with the cycle in which its block begins
abbrev pub labelled_by : Option Name → ℕ → List (Name × ℕ)
labelled_by None start = []
labelled_by (Some label) start = (label, start) ∷ []

abbrev pub labelled : List Draft → List (Name × ℕ)
labelled drafts = flat_map (λ draft. labelled_by draft.label draft.start) drafts

-- the labels of rows, each with the cycle in which its row begins
abbrev pub begun_in : List Row → Name × ℕ → Name × ℕ
begun_in rows label = (label.0, begins rows label.1)

abbrev pub AreEarly : List Row → List (Name × ℕ) → Type 0
AreEarly done [] = Unit {0}
AreEarly done (label ∷ labels) = (label.1 ≤ length done) × AreEarly done labels

-- a row begins in a cycle, or an instruction stands six cycles before it
abbrev pub IsCutBy : List Row → List Home → ℕ → Type 0
IsCutBy done homes cycle =
    ((row : ℕ) × (row ≤ length done) × (begins done row ≡ cycle))
    ⊎ ((h : Home) × In h homes × (h.start + h.issue.cycle + 6 ≡ cycle))

-- what is read of lines are rows with their instructions and labels
pub record AreRows (above : List Line) (drafts : Drafts) (reading : Reading) : Type 0 where
  pub cycles : span (all_rows reading) ≡ cycles_of above
  pub is_open : IsOpen reading.done reading.current (last_packet above)
  pub from : (x : Stood) → In x (stood_from 0 (all_rows reading)) → (h : Home) × In h (homes_in above)
      × IsOf reading.targets h x
  pub to : (h : Home) → In h (homes_in above) → (x : Stood) × In x (stood_from 0 (all_rows reading))
      × IsOf reading.targets h x
  pub labels : labelled (all_drafts drafts) ≡ map (begun_in reading.done) reading.labels
  pub early : AreEarly reading.done reading.labels
  pub words : reading.words ≡ []
  pub cuts : (cycle : ℕ) → In cycle (cuts_of above) → IsCutBy reading.done (homes_in above) cycle

-- ---- labels that are named

found_in : (xs ys : List (Name × ℕ)) (number : ℕ) (x : Name × ℕ) → slice_get xs number ≡ Some x
    → slice_get (xs ++ ys) number ≡ Some x
found_in [] ys number x e = absurd cc
found_in (z ∷ xs) ys zero x e = e
found_in (z ∷ xs) ys (suc number) x e = found_in xs ys number x e

parts_stay : (targets more : List (Name × ℕ)) (target : Option Name) (parts other : Parts)
    → IsPartsOf targets target parts other → IsPartsOf (targets ++ more) target parts other
parts_stay targets more None parts other is = is
parts_stay targets more (Some target) parts other is =
    (is.0, is.1, found_in targets more is.0 (target, is.1) is.2, is.3)

pub stays : (targets more : List (Name × ℕ)) (h : Home) (x : Stood) → IsOf targets h x → IsOf (targets ++ more) h x
stays targets more h x is =
    record {
      line = is.line;
      when = is.when;
      unit = is.unit;
      parts = parts_stay targets more h.issue.target
          h.issue.parts (parts_of x.placed.insn) is.parts;
    }

abbrev named_in : Name → ℕ → List (Name × ℕ) → List (Name × ℕ)
named_in target number targets = cond (is_some (lookup (bytes_eq target) targets)) targets
    (targets ++ (target, number) ∷ [])

pub has_place : (target : Name) (number : ℕ) (targets : List (Name × ℕ))
    → (line : ℕ) × (slice_get (named_in target number targets) (position_or_len (bytes_eq target) (keys_of targets)) ≡
    Some (target, line))
has_place target number [] = (number, refl)
has_place target number (x ∷ targets) = elim (cases_Bool (bytes_eq target x.0)) [
  | inl same ↦
      let is : target ≡ x.0 = (bytes_eq-Decides target x.0).0 same in
      (x.1, rw same (ap (λ (name : Name). Some (name, x.1)) (sym is)))
  | inr other ↦ (let rest = has_place target number targets in (
    rest.0,
    rw other (later (position_or_len (bytes_eq target) (keys_of targets)) rest.0
        (is_some (lookup (bytes_eq target) targets)) rest.1),
  ))
]
  where
    later : (place line : ℕ) (b : Bool)
        → slice_get (cond b targets (targets ++ (target, number) ∷ [])) place ≡ Some (target, line)
        → slice_get (cond b (x ∷ targets) ((x ∷ targets) ++ (target, number) ∷ [])) (1 + place) ≡ Some (target, line)
    later place line true e = let s : 1 + place ≡ suc place = omega arith in ap (slice_get (x ∷ targets)) s ∙ e
    later place line false e = let s : 1 + place ≡ suc place = omega arith in ap
        (slice_get ((x ∷ targets) ++ (target, number) ∷ [])) s ∙ e

-- ---- labels that are given

pub begun_stays : (done more : List Row) (labels : List (Name × ℕ)) → AreEarly done labels
    → map (begun_in (done ++ more)) labels ≡ map (begun_in done) labels
begun_stays done more [] early = refl
begun_stays done more (label ∷ labels) early =
    let here : begins (done ++ more) label.1 ≡ begins done label.1 = begins_front done more label.1 early.0 in
    let rest = begun_stays done more labels early.1 in
    ap (λ n. (label.0, n) ∷ map (begun_in (done ++ more)) labels) here
    ∙ ap (λ (others : List (Name × ℕ)). (label.0, begins done label.1) ∷ others) rest

pub early_stays : (done more : List Row) (labels : List (Name × ℕ)) → AreEarly done labels
    → AreEarly (done ++ more) labels
early_stays done more [] early = tt
early_stays done more (label ∷ labels) early =
    (let l = length-append done more in omega (arith, l, early.0), early_stays done more labels early.1)

pub early_more : (done : List Row) (labels : List (Name × ℕ)) (name : Name) (row : ℕ) → AreEarly done labels
    → row ≤ length done → AreEarly done (labels ++ (name, row) ∷ [])
early_more done [] name row early l = (l, tt)
early_more done (label ∷ labels) name row early l = (early.0, early_more done labels name row early.1 l)

pub labelled_more : (drafts : List Draft) (label : Option Name) (start : ℕ)
    → labelled (drafts ++ new_draft label start ∷ []) ≡ labelled drafts ++ labelled_by label start
labelled_more drafts label start =
    flat_map-append (λ (draft : Draft). labelled_by draft.label draft.start) drafts (new_draft label start ∷ [])
    ∙ ap (λ (more : List (Name × ℕ)). labelled drafts ++ more) (append-nil (labelled_by label start))

-- an instruction more changes no label
labelled_issue : (issue : Issue) (drafts : Drafts)
    → labelled (all_drafts (add_issue issue drafts)) ≡ labelled (all_drafts drafts)
labelled_issue issue drafts = by drafts.done drafts.current
  where
    by : (done : List Draft) (current : Option Draft)
        → labelled (all_drafts (add_issue issue (record { done = done; current = current }))) ≡ labelled
        (done ++ option_to_list current)
    by done None = refl
    by done (Some draft) =
        flat_map-append (λ (d : Draft). labelled_by d.label d.start) done (with_issue issue draft ∷ [])
        ∙ sym (flat_map-append (λ (d : Draft). labelled_by d.label d.start) done (draft ∷ []))

labelled_opened : (start : ℕ) (drafts : Drafts)
    → labelled (all_drafts (opened start drafts)) ≡ labelled (all_drafts drafts)
labelled_opened start drafts = elim (cases_Bool (begins_at start drafts.current)) [
  | inl begins ↦ rw begins refl
  | inr other ↦ rw other (labelled_more (all_drafts drafts) None start ∙ append-nil (labelled (all_drafts drafts)))
]

pub labelled_says : (number : ℕ) (stand : Stand) (says : Says) (drafts : Drafts)
    → labelled (all_drafts (with_says number stand says drafts)) ≡ labelled (all_drafts drafts)
labelled_says number stand Nothing drafts = refl
labelled_says number stand (Pause n) drafts = refl
labelled_says number stand (Does parts) drafts = labelled_issue (issue_at stand number parts None)
    (opened stand.start drafts) ∙ labelled_opened stand.start drafts
labelled_says number stand (Jumps parts target) drafts = labelled_issue (issue_at stand number parts (Some target))
    (opened stand.start drafts) ∙ labelled_opened stand.start drafts
