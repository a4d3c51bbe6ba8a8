-- Blocks begin where the text is cut.
use Rattle.std.proofs.Common.{◌≡◌, ◌≤◌, ◌+◌, ◌==◌, ◌||◌, ◌&&◌, cond, max, leb, sym, subst, refl, true, false, ℕ, Bool}
use Rattle.std.proofs.Common.{List, ◌∷◌, [], Option, Some, None, arith, inl, inr}
use Rattle.std.specs.Prelude.{is_none, is_some, IfSome, IsTrue, unwrap_or}
use Rattle.std.specs.List.{AllByRecursion, list_any}
use Rattle.std.proofs.lemmas.Bool.{cases_Bool}
use Rattle.std.proofs.lemmas.Bool.Decides.{nat_tests}
use Rattle.c62_adopt_line.specs.Line.{Line}
use Rattle.c62_adopt_cut.specs.Cut.{Place, begins_packet, cycle_at, cycles_of, cuts_of, first_of, is_branching}
use Rattle.c62_adopt_cut.specs.Cut.{is_cut_behind, last_packet, place_of, stand_at, stand_of, start_of, with_branch_cut}
use Rattle.c62_adopt_cut.specs.Cut.{with_cut, with_label_cut}
use Rattle.c62_adopt_cut.specs.Home.{is_cut}

-- the text's beginning, or one of these cuts
abbrev has : ℕ → List ℕ → Bool
has cycle cuts = cycle == 0 || list_any (λ cut. cut == cycle) cuts

has_more : (cycle cut : ℕ) (cuts : List ℕ) → has cycle cuts ≡ true → has cycle (cut ∷ cuts) ≡ true
has_more cycle cut cuts is = grind (arith, nat_tests)

has_here : (cut : ℕ) (cuts : List ℕ) → has cut (cut ∷ cuts) ≡ true
has_here cut cuts = grind (arith, nat_tests)

has_last : (cut other : ℕ) (cuts : List ℕ) → has other cuts ≡ true → has (max cut other) (cut ∷ cuts) ≡ true
has_last cut other cuts is = elim (cases_Bool (leb other cut)) [
  | inl low ↦
      let same : max cut other ≡ cut = grind (arith, nat_tests) in
      subst (λ (n : ℕ). has n (cut ∷ cuts) ≡ true) (sym same) (has_here cut cuts)
  | inr high ↦
      let same : max cut other ≡ other = grind (arith, nat_tests) in
      subst (λ (n : ℕ). has n (cut ∷ cuts) ≡ true) (sym same) (has_more other cut cuts is)
]

start_has : (cycle : ℕ) (cuts : List ℕ) → has (start_of cycle cuts) cuts ≡ true
start_has cycle [] = refl
start_has cycle (cut ∷ cuts) = by_cut (leb cut cycle) (start_of cycle cuts) (start_has cycle cuts)
  where
    by_cut : (passed : Bool) (other : ℕ) → has other cuts ≡ true
        → has (cond passed (max cut other) other) (cut ∷ cuts) ≡ true
    by_cut true other is = has_last cut other cuts is
    by_cut false other is = has_more other cut cuts is

-- ---- cuts stay

label_keeps : (cycle : ℕ) (place : Place) (cuts : List ℕ) → has cycle cuts ≡ true
    → has cycle (with_label_cut place cuts) ≡ true
label_keeps cycle place cuts is = elim (cases_Bool (is_some place.line.label)) [
  | inl labelled ↦ rw labelled (has_more cycle (cycles_of place.above) cuts is)
  | inr plain ↦ rw plain is
]

cut_keeps : (cycle at : ℕ) (cuts : List ℕ) → has cycle cuts ≡ true → has cycle (with_cut at cuts) ≡ true
cut_keeps cycle at cuts is = elim (cases_Bool (is_cut_behind at cuts)) [
  | inl behind ↦ rw behind is
  | inr last ↦ rw last (has_more cycle (at + 6) cuts is)
]

branch_keeps : (cycle : ℕ) (place : Place) (cuts : List ℕ) → has cycle cuts ≡ true
    → has cycle (with_branch_cut place cuts) ≡ true
branch_keeps cycle place cuts is = elim (cases_Bool (is_branching place.line.says)) [
  | inl branch ↦ rw branch (cut_keeps cycle (cycle_at (first_of place.above place.line)) cuts is)
  | inr other ↦ rw other is
]

pub cut_stays : (above : List Line) (line : Line) (cycle : ℕ) → IsTrue (is_cut above cycle)
    → IsTrue (is_cut (line ∷ above) cycle)
cut_stays above line cycle is =
    let place = place_of above line in
    branch_keeps cycle place (with_label_cut place (cuts_of above)) (label_keeps cycle place (cuts_of above) is)

pub cuts_stay : (above : List Line) (line : Line) (starts : List ℕ)
    → AllByRecursion (λ start. IsTrue (is_cut above start)) starts
    → AllByRecursion (λ start. IsTrue (is_cut (line ∷ above) start)) starts
cuts_stay above line [] all = tt
cuts_stay above line (start ∷ starts) all = (cut_stays above line start all.0, cuts_stay above line starts all.1)

-- ---- where a line stands

label_is_cut : (place : Place) (cuts : List ℕ) → is_some place.line.label ≡ true
    → has (cycles_of place.above) (with_label_cut place cuts) ≡ true
label_is_cut place cuts labelled = rw labelled (has_here (cycles_of place.above) cuts)

-- a label cuts where it stands
pub label_cut : (above : List Line) (line : Line) → is_some line.label ≡ true
    → IsTrue (is_cut (line ∷ above) (cycles_of above))
label_cut above line labelled =
    let place = place_of above line in
    branch_keeps (cycles_of above) place (with_label_cut place (cuts_of above))
    (label_is_cut place (cuts_of above) labelled)

here_cut : (above : List Line) (line : Line) → IsTrue (is_cut (line ∷ above) (stand_at (place_of above line)).start)
here_cut above line =
    let place = place_of above line in
    let cuts = with_label_cut place (cuts_of above) in
    branch_keeps (start_of (cycles_of above) cuts) place cuts (start_has (cycles_of above) cuts)

packet_by : (begins labelled : Bool) (here : Place) (found : Option Place) (lines : List Line)
    → IsTrue (is_cut lines (stand_at here).start)
    → IfSome found (λ place. IsTrue (is_cut lines (stand_at place).start))
    → IfSome (cond begins (Some here) (cond labelled None found))
    (λ place. IsTrue (is_cut lines (stand_at place).start))
packet_by true labelled here found lines is others = is
packet_by false true here found lines is others = tt
packet_by false false here found lines is others = others

packet_stays : (above : List Line) (line : Line) (found : Option Place)
    → IfSome found (λ place. IsTrue (is_cut above (stand_at place).start))
    → IfSome found (λ place. IsTrue (is_cut (line ∷ above) (stand_at place).start))
packet_stays above line None is = tt
packet_stays above line (Some place) is = cut_stays above line (stand_at place).start is

packet_cut : (above : List Line) → IfSome (last_packet above) (λ place. IsTrue (is_cut above (stand_at place).start))
packet_cut [] = tt
packet_cut (line ∷ above) =
    packet_by (begins_packet line) (is_some line.label) (place_of above line) (last_packet above) (line ∷ above)
    (here_cut above line)
    (packet_stays above line (last_packet above) (packet_cut above))

cut_by : (above : List Line) (line : Line) (beside : Bool) (found : Option Place) → (beside && is_none found) ≡ false
    → IfSome found (λ place. IsTrue (is_cut above (stand_at place).start))
    → IsTrue (is_cut (line ∷ above)
    (stand_at (cond beside (unwrap_or found (place_of above line)) (place_of above line))).start)
cut_by above line true None bars is = absurd cc
cut_by above line true (Some place) bars is = cut_stays above line (stand_at place).start is
cut_by above line false found bars is = here_cut above line

-- a line stands in a block that begins at a cut
pub stand_cut : (above : List Line) (line : Line) → (line.beside && is_none (last_packet above)) ≡ false
    → IsTrue (is_cut (line ∷ above) (stand_of above line).start)
stand_cut above line bars = cut_by above line line.beside (last_packet above) bars (packet_cut above)
