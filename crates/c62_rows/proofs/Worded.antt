-- Rows with the words of labels.
use Rattle.std.proofs.Common.{arith, ◌≡◌, ◌≢◌, ◌⊎◌, inl, inr, ℕ, suc, ◌+◌, ◌<◌, ◌≤◌, List, [], ◌∷◌, length, map, get_or}
use Rattle.std.proofs.Common.{set, Option, Some, None, refl, sym, ap, ◌∙◌, subst}
use Rattle.std.specs.Prelude.{nat_eq, sum_by, count_by, All, ◌==◌, if◌then◌else◌}
use Rattle.std.specs.Map.{lookup}
use Rattle.std.specs.List.Sorted.{IsStrictlyIncreasing}
use Rattle.std.proofs.lemmas.Bool.{cases_eq}
use Rattle.std.proofs.lemmas.List.{length-set, get_or_default, get_or-set_same, get_or-set_other}
use Rattle.std.proofs.lemmas.List.Elements.{All-head, All-tail, All-cons}
use Rattle.std.proofs.lemmas.List.Sums.{sum_by-cons}
use Rattle.c62_op.specs.Units.{index_of}
use Rattle.c62_insn.specs.declared.insn.Insn.{Insn}
use Rattle.c62_insn.specs.Insn.{unit_of}
use Rattle.c62_rules.specs.declared.resource.Resource.{Resource}
use Rattle.c62_rules.specs.Resource.{taken_by, same_resource}
use Rattle.c62_rules.specs.Capacity.{uses_in}
use Rattle.c62_line.specs.Line.{Parts, parts_of}
use Rattle.c62_read.specs.Program.{Name}
use Rattle.c62_packet.specs.declared.placed.Placed.{Placed}
use Rattle.c62_packet.specs.Packed.{issue_of, issued, StandAsWritten}
use Rattle.c62_flight.specs.Text.{Row}
use Rattle.c62_rows.specs.declared.rows.Row.{Row as RowRead}
use Rattle.c62_rows.specs.Rows.{IsRow, row_read}
use Rattle.c62_rows.specs.Word.{word_of, with_word, with_half}
use Rattle.c62_rows.specs.Worded.{IsWorded, AreInsnsWorded, IsRowWorded, AreWorded}
use Rattle.c62_rows.proofs.Halves.{same_taken}
use Rattle.c62_rows.proofs.OneLine.{same_insn}

-- ---- one by one

-- the first of these are those elements with what R says, and the others are still as they were
pub record AreDone {X : Type 0} (R : X → X → Type 0) (old now : List X) (count : ℕ) : Type 0 where
  pub same : length now ≡ length old
  pub before : (k : ℕ) (d : X) → k < count → R (get_or old k d) (get_or now k d)
  pub behind : (k : ℕ) (d : X) → count ≤ k → get_or now k d ≡ get_or old k d

pub none_done : {X : Type 0} (R : X → X → Type 0) (old : List X) → AreDone R old old 0
none_done R old = record { same = refl; before = λ k d low. absurd (omega (arith, low)); behind = λ k d le. refl }

pub one_done : {X : Type 0} (R : X → X → Type 0) (old now : List X) (i : ℕ) (y : X) → AreDone R old now i
    → i < length now
    → (e : X) → R (get_or now i e) y → AreDone R old (set now i y) (i + 1)
one_done {X} R old now i y far low e here = record {
  same = length-set now i y ∙ far.same;
  before = λ k d less. before k d less (cases_eq k i);
  behind = λ k d le. get_or-set_other now i k y d (λ e. absurd (omega (arith, le, e)))
      ∙ far.behind k d (omega (arith, le));
}
  where
    before : (k : ℕ) (d : X) → k < i + 1 → (k ≡ i) ⊎ (k ≢ i) → R (get_or old k d) (get_or (set now i y) k d)
    before k d less (inl same) =
        subst (λ (z : X). R (get_or old k d) z) (sym (ap (λ (j : ℕ). get_or (set now i y) j d) same
        ∙ get_or-set_same now i y d low))
        (subst (λ (z : X). R z y) (get_or_default now i e d low ∙ ap (λ (j : ℕ). get_or now j d) (sym same)
        ∙ far.behind k d (omega (arith, same))) here)
    before k d less (inr other) =
        subst (λ (z : X). R (get_or old k d) z) (sym (get_or-set_other now i k y d other))
        (far.before k d (omega (arith, less, other)))

pub all_worded : (words : List (ℕ × Name)) (labels : List (Name × ℕ)) (old new : List Placed) (count : ℕ)
    → AreDone (IsWorded words labels) old new count
    → length old ≤ count → AreInsnsWorded words labels old new
all_worded words labels old new count done all = each old new done.same
    (λ k d low. done.before k d (omega (arith, low, all)))
  where
    each : (old new : List Placed) → length new ≡ length old
        → ((k : ℕ) (d : Placed) → k < length old → IsWorded words labels (get_or old k d) (get_or new k d))
        → AreInsnsWorded words labels old new
    each [] [] same at = tt
    each (p ∷ old) (q ∷ new) same at =
        (at 0 p (omega arith), each old new (omega (arith, same)) (λ k d low. at (suc k) d (omega (arith, low))))
    each [] (q ∷ new) same at = absurd (omega (arith, same))
    each (p ∷ old) [] same at = absurd (omega (arith, same))

-- rows as the code has them
abbrev pub IsReadWorded : List (ℕ × Name) → List (Name × ℕ) → RowRead → RowRead → Type 0
IsReadWorded words labels row other = IsRowWorded words labels (row_read row) (row_read other)

pub all_rows_worded : (words : List (ℕ × Name)) (labels : List (Name × ℕ)) (old new : List RowRead) (count : ℕ)
    → AreDone (IsReadWorded words labels) old new count → length old ≤ count
    → AreWorded words labels (map row_read old) (map row_read new)
all_rows_worded words labels old new count done all = each old new done.same
    (λ k d low. done.before k d (omega (arith, low, all)))
  where
    each : (old new : List RowRead) → length new ≡ length old
        → ((k : ℕ) (d : RowRead) → k < length old → IsReadWorded words labels (get_or old k d) (get_or new k d))
        → AreWorded words labels (map row_read old) (map row_read new)
    each [] [] same at = tt
    each (p ∷ old) (q ∷ new) same at =
        (at 0 p (omega arith), each old new (omega (arith, same)) (λ k d low. at (suc k) d (omega (arith, low))))
    each [] (q ∷ new) same at = absurd (omega (arith, same))
    each (p ∷ old) [] same at = absurd (omega (arith, same))

-- ---- where no line takes a word

unworded : (labels : List (Name × ℕ)) (placed : List Placed) → AreInsnsWorded [] labels placed placed
unworded labels [] = tt
unworded labels (p ∷ placed) = (record { parts = refl; line = refl; cycle = refl; unit = refl }, unworded labels placed)

all_unworded : (labels : List (Name × ℕ)) (rows : List Row) → AreWorded [] labels rows rows
all_unworded labels [] = tt
all_unworded labels (row ∷ rows) = (record { insns = unworded labels row.insns; idle = refl }, all_unworded labels rows)

pub rows_unworded : (words : List (ℕ × Name)) (labels : List (Name × ℕ)) (rows : List Row) → length words ≡ 0
    → AreWorded words labels rows rows
rows_unworded [] labels rows none = all_unworded labels rows
rows_unworded (word ∷ words) labels rows none = absurd (omega (arith, none))

-- ---- a row with words is one

same_unit : (words : List (ℕ × Name)) (labels : List (Name × ℕ)) (p q : Placed) → IsWorded words labels p q
    → unit_of q.insn ≡ unit_of p.insn
same_unit words labels p q is = by (lookup (nat_eq p.line) words) refl
  where
    by : (word : Option Name) → lookup (nat_eq p.line) words ≡ word → unit_of q.insn ≡ unit_of p.insn
    by None e = grind (arith, is.parts, e)
    by (Some name) e = grind (arith, is.parts, e)

-- the word of a constant takes nothing of a cycle
same_resources : (words : List (ℕ × Name)) (labels : List (Name × ℕ)) (p q : Placed) → IsWorded words labels p q
    → taken_by q.insn p.unit ≡ taken_by p.insn p.unit
same_resources words labels p q is = by (lookup (nat_eq p.line) words) refl
  where
    by : (word : Option Name) → lookup (nat_eq p.line) words ≡ word → taken_by q.insn p.unit ≡ taken_by p.insn p.unit
    by None e =
        let same : parts_of q.insn ≡ parts_of p.insn = is.parts
        ∙ ap (λ (w : Option Name). with_word w labels (parts_of p.insn)) e in
        ap (λ (insn : Insn). taken_by insn p.unit) (same_insn q.insn p.insn same)
    by (Some name) e =
        let same : parts_of q.insn ≡ with_half (word_of name labels) (parts_of p.insn) = is.parts
        ∙ ap (λ (w : Option Name). with_word w labels (parts_of p.insn)) e in
        same_taken (word_of name labels) p.insn q.insn p.unit (ap (λ (parts : Parts). parts.op) same)
        (ap (λ (parts : Parts). parts.operands) same)

same_uses : (words : List (ℕ × Name)) (labels : List (Name × ℕ)) (p q : Placed) (r : Resource)
    → IsWorded words labels p q
    → uses_in 0 r (Some (issue_of q)) ≡ uses_in 0 r (Some (issue_of p))
same_uses words labels p q r is i = if is.cycle i == 0 then count_by (λ taken. same_resource taken r) (resources i) else
    0
  where
    resources : taken_by q.insn q.unit ≡ taken_by p.insn p.unit
    resources = ap (taken_by q.insn) is.unit ∙ same_resources words labels p q is

module _ (words : List (ℕ × Name)) (labels : List (Name × ℕ)) where
  same_sum : (r : Resource) (old new : List Placed) → AreInsnsWorded words labels old new
      → sum_by (uses_in 0 r) (issued new) ≡ sum_by (uses_in 0 r) (issued old)
  same_sum r [] [] is = refl
  same_sum r (p ∷ old) (q ∷ new) is =
      omega (
        arith,
        same_uses words labels p q r is.0,
        same_sum r old new is.1,
        sum_by-cons (uses_in 0 r) (Some (issue_of p)) (issued old),
        sum_by-cons (uses_in 0 r) (Some (issue_of q)) (issued new),
      )
  same_sum r [] (q ∷ new) is = absurd is
  same_sum r (p ∷ old) [] is = absurd is

  pub same_length : (old new : List Placed) → AreInsnsWorded words labels old new → length new ≡ length old
  same_length [] [] is = refl
  same_length (p ∷ old) (q ∷ new) is = omega (arith, same_length old new is.1)
  same_length [] (q ∷ new) is = absurd is
  same_length (p ∷ old) [] is = absurd is

  same_places : (old new : List Placed) → AreInsnsWorded words labels old new
      → map (λ (p : Placed). index_of p.unit) new ≡ map (λ (p : Placed). index_of p.unit) old
  same_places [] [] is = refl
  same_places (p ∷ old) (q ∷ new) is = rw (is.0.unit, same_places old new is.1) refl
  same_places [] (q ∷ new) is = absurd is
  same_places (p ∷ old) [] is = absurd is

  units_stand : (old new : List Placed) → AreInsnsWorded words labels old new → StandAsWritten old → StandAsWritten new
  units_stand [] [] is stand = stand
  units_stand (p ∷ old) (q ∷ new) is stand =
      All-cons (λ (p : Placed). unit_of p.insn ≡ Some p.unit) q new
      (same_unit words labels p q is.0 ∙ All-head (λ (p : Placed). unit_of p.insn ≡ Some p.unit) p old stand
      ∙ ap Some (sym is.0.unit))
      (units_stand old new is.1 (All-tail (λ (p : Placed). unit_of p.insn ≡ Some p.unit) p old stand))
  units_stand [] (q ∷ new) is stand = absurd is
  units_stand (p ∷ old) [] is stand = absurd is

  cycles_zero : (old new : List Placed) → AreInsnsWorded words labels old new → All (λ p. p.cycle ≡ 0) old
      → All (λ p. p.cycle ≡ 0) new
  cycles_zero [] [] is zeros = zeros
  cycles_zero (p ∷ old) (q ∷ new) is zeros =
      All-cons (λ (p : Placed). p.cycle ≡ 0) q new
      (is.0.cycle ∙ All-head (λ (p : Placed). p.cycle ≡ 0) p old zeros)
      (cycles_zero old new is.1 (All-tail (λ (p : Placed). p.cycle ≡ 0) p old zeros))
  cycles_zero [] (q ∷ new) is zeros = absurd is
  cycles_zero (p ∷ old) [] is zeros = absurd is

  row_worded : (row other : Row) → IsRowWorded words labels row other → IsRow row → IsRow other
  row_worded row other is one = record {
    units = units_stand row.insns other.insns is.insns one.units;
    cycles = cycles_zero row.insns other.insns is.insns one.cycles;
    enough = λ r. omega (arith, one.enough r, same_sum r row.insns other.insns is.insns);
    in_order = subst IsStrictlyIncreasing (sym (same_places row.insns other.insns is.insns)) one.in_order;
    few = omega (arith, one.few, same_length row.insns other.insns is.insns);
  }

  pub rows_worded : (rows others : List Row) → AreWorded words labels rows others → All IsRow rows → All IsRow others
  rows_worded [] [] is rows = rows
  rows_worded (row ∷ rows) (other ∷ others) is each =
      All-cons IsRow other others (row_worded row other is.0 (All-head IsRow row rows each))
      (rows_worded rows others is.1 (All-tail IsRow row rows each))
  rows_worded [] (other ∷ others) is each = absurd is
  rows_worded (row ∷ rows) [] is each = absurd is

  pub same_count : (rows others : List Row) → AreWorded words labels rows others → length others ≡ length rows
  same_count [] [] is = refl
  same_count (row ∷ rows) (other ∷ others) is = omega (arith, same_count rows others is.1)
  same_count [] (other ∷ others) is = absurd is
  same_count (row ∷ rows) [] is = absurd is
