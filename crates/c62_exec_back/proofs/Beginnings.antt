-- The cycles in which the rows of a text begin, where each is over before the next begins.
use Rattle.std.proofs.Common.{◌≡◌, ℕ, zero, suc, ◌+◌, ◌-◌, ◌<◌, ◌≤◌, List, [], ◌∷◌, ◌++◌, length, refl, sym, ◌∙◌, ap}
use Rattle.std.proofs.Common.{subst, ◌⊎◌, inl, inr, arith}
use Rattle.std.proofs.lemmas.Bool.{cases_lt}
use Rattle.std.specs.Prelude.{slice_index_or}
use Rattle.c62_meaning.proofs.Lookup.{In}
use Rattle.c62_flight.specs.Text.{Row, Text, no_row, row_of}
use Rattle.c62_flight.specs.Issued.{Visit}
use Rattle.c62_flight.specs.Laid.{straight, straight_end}

-- the cycle in which a row begins, or all are over
abbrev pub begins : List Row → ℕ → ℕ
begins [] number = 0
begins (row ∷ rows) zero = 0
begins (row ∷ rows) (suc number) = row.idle + 1 + begins rows number

-- the cycles of all of them
abbrev pub span : List Row → ℕ
span [] = 0
span (row ∷ rows) = row.idle + 1 + span rows

-- the first row that begins in a cycle or behind it
abbrev pub row_from : List Row → ℕ → ℕ
row_from [] cycle = 0
row_from (row ∷ rows) zero = 0
row_from (row ∷ rows) (suc cycle) = suc (row_from rows (cycle - row.idle))

-- ---- where rows begin

pub begins_first : (rows : List Row) → begins rows 0 ≡ 0
begins_first [] = refl
begins_first (row ∷ rows) = refl

pub begins_end : (rows : List Row) → begins rows (length rows) ≡ span rows
begins_end [] = refl
begins_end (row ∷ rows) = ap (λ n. row.idle + 1 + n) (begins_end rows)

pub begins_next : (rows : List Row) (number : ℕ) → number < length rows
    → begins rows (suc number) ≡ begins rows number + (slice_index_or rows number no_row).idle + 1
begins_next [] number l = absurd (omega arith)
begins_next (row ∷ rows) zero l = let first = begins_first rows in omega (arith, first)
begins_next (row ∷ rows) (suc number) l = let rest = begins_next rows number (omega arith) in omega (arith, rest)

pub begins_rises : (rows : List Row) (number next : ℕ) → number < next → next ≤ length rows
    → begins rows number < begins rows next
begins_rises [] number next l inside = absurd (omega arith)
begins_rises (row ∷ rows) number zero l inside = absurd (omega arith)
begins_rises (row ∷ rows) zero (suc next) l inside = omega arith
begins_rises (row ∷ rows) (suc number) (suc next) l inside = let rest = begins_rises rows number next (omega arith)
    (omega arith) in omega (arith, rest)

pub begins_front : (xs ys : List Row) (number : ℕ) → number ≤ length xs → begins (xs ++ ys) number ≡ begins xs number
begins_front [] ys number l = let e : number ≡ 0 = omega arith in ap (begins ys) e ∙ begins_first ys
begins_front (x ∷ xs) ys zero l = refl
begins_front (x ∷ xs) ys (suc number) l = ap (λ n. x.idle + 1 + n) (begins_front xs ys number (omega arith))

pub span_append : (xs ys : List Row) → span (xs ++ ys) ≡ span xs + span ys
span_append [] ys = omega arith
span_append (x ∷ xs) ys = let rest = span_append xs ys in omega (arith, rest)

-- ---- which row begins there

pub from_inside : (rows : List Row) (cycle : ℕ) → row_from rows cycle ≤ length rows
from_inside [] cycle = omega arith
from_inside (row ∷ rows) zero = omega arith
from_inside (row ∷ rows) (suc cycle) = let rest = from_inside rows (cycle - row.idle) in omega (arith, rest)

pub from_late : (rows : List Row) (cycle : ℕ) → cycle ≤ span rows → cycle ≤ begins rows (row_from rows cycle)
from_late [] cycle l = l
from_late (row ∷ rows) zero l = omega arith
from_late (row ∷ rows) (suc cycle) l = let rest = from_late rows (cycle - row.idle) (omega arith) in omega (arith, rest)

pub before_from : (rows : List Row) (number cycle : ℕ) → number < row_from rows cycle → begins rows number < cycle
before_from [] number cycle l = absurd (omega arith)
before_from (row ∷ rows) number zero l = absurd (omega arith)
before_from (row ∷ rows) zero (suc cycle) l = omega arith
before_from (row ∷ rows) (suc number) (suc cycle) l = let rest = before_from rows number (cycle - row.idle)
    (omega arith) in omega (arith, rest)

pub behind_from : (rows : List Row) (number cycle : ℕ) → number ≤ length rows → cycle ≤ span rows
    → row_from rows cycle ≤ number → cycle ≤ begins rows number
behind_from [] number cycle inside early l = early
behind_from (row ∷ rows) number zero inside early l = omega arith
behind_from (row ∷ rows) zero (suc cycle) inside early l = absurd (omega arith)
behind_from (row ∷ rows) (suc number) (suc cycle) inside early l =
    let rest = behind_from rows number (cycle - row.idle) (omega arith) (omega arith) (omega arith) in omega
    (arith, rest)

pub from_begins : (rows : List Row) (number : ℕ) → number ≤ length rows → row_from rows (begins rows number) ≡ number
from_begins [] number l = omega arith
from_begins (row ∷ rows) zero l = refl
from_begins (row ∷ rows) (suc number) l =
    let e : row.idle + 1 + begins rows number ≡ suc (row.idle + begins rows number) = omega arith in
    let f : row.idle + begins rows number - row.idle ≡ begins rows number = omega arith in
    ap (row_from (row ∷ rows)) e ∙ ap (λ n. suc (row_from rows n)) f ∙ ap suc (from_begins rows number (omega arith))

pub from_rises : (rows : List Row) (cycle later : ℕ) → cycle ≤ later → row_from rows cycle ≤ row_from rows later
from_rises [] cycle later l = omega arith
from_rises (row ∷ rows) zero later l = omega arith
from_rises (row ∷ rows) (suc cycle) zero l = absurd (omega arith)
from_rises (row ∷ rows) (suc cycle) (suc later) l = let rest = from_rises rows (cycle - row.idle) (later - row.idle)
    (omega arith) in omega (arith, rest)

pub from_end : (rows : List Row) → row_from rows (span rows) ≡ length rows
from_end rows = ap (row_from rows) (sym (begins_end rows)) ∙ from_begins rows (length rows) (omega arith)

-- ---- rows one behind the other

first_or_later : (row number : ℕ) → row ≤ number → (number ≡ row) ⊎ (row + 1 ≤ number)
first_or_later row number l = elim (cases_lt row number) [
  | inl less ↦ inr (omega arith)
  | inr more ↦ inl (omega arith)
]

module _ (text : Text) where
  pub straight_begins : (row start count : ℕ) → row + count ≤ length text.rows
      → straight_end text row start count + begins text.rows row ≡ start + begins text.rows (row + count)
  straight_begins row start zero inside = let e : row + 0 ≡ row = omega arith in let f = ap (begins text.rows) e in
      omega (arith, f)
  straight_begins row start (suc count) inside =
      let next = begins_next text.rows row (omega arith) in
      let one : row + 1 ≡ suc row = omega arith in
      let at = ap (begins text.rows) one in
      let e : row + 1 + count ≡ row + suc count = omega arith in
      let f = ap (begins text.rows) e in
      let rest = straight_begins (row + 1) (start + (row_of text row).idle + 1) count (omega arith) in
      omega (arith, next, at, f, rest)

  -- the visit of a row that begins so many rows behind the first, which is begun in this cycle
  pub record IsVisit (row start count : ℕ) (visit : Visit) : Type 0 where
    pub below : row ≤ visit.row
    pub above : visit.row < row + count
    pub when : visit.start + begins text.rows row ≡ start + begins text.rows visit.row

  pub is_visit : (row start count : ℕ) (visit : Visit) → row + count ≤ length text.rows
      → In visit (straight text row start count) → IsVisit row start count visit
  is_visit row start zero visit inside h = absurd h
  is_visit row start (suc count) visit inside (inl e) = subst (IsVisit row start (suc count)) e
      (record { below = omega arith; above = omega arith; when = refl })
  is_visit row start (suc count) visit inside (inr h) =
      let next = begins_next text.rows row (omega arith) in
      let one : row + 1 ≡ suc row = omega arith in
      let at = ap (begins text.rows) one in
      let v = is_visit (row + 1) (start + (row_of text row).idle + 1) count visit (omega arith) h in
      let below : row + 1 ≤ visit.row = v.below in
      let above : visit.row < row + 1 + count = v.above in
      let when = v.when in
      record { below = omega arith; above = omega arith; when = omega (arith, when, next, at) }

  pub has_visit : (row start count number : ℕ) → row + count ≤ length text.rows → row ≤ number → number < row + count
      → (visit : Visit) × In visit (straight text row start count) × (visit.row ≡ number)
  has_visit row start zero number inside low high = absurd (omega arith)
  has_visit row start (suc count) number inside low high = elim (first_or_later row number low) [
    | inl e ↦ (record { row = row; start = start }, inl refl, sym e)
    | inr l ↦ (let r = has_visit (row + 1) (start + (row_of text row).idle + 1) count number (omega arith) l
        (omega arith) in (r.0, inr r.1, r.2))
  ]
