-- Three words of fields, by the places of the fields.
use Rattle.std.proofs.Common.{arith, ◌≡◌, ◌≢◌, ℕ, ◌+◌, ◌-◌, ◌*◌, ◌/◌, ◌%◌, ◌<◌, ◌≤◌, List, [], ◌∷◌, length}
use Rattle.std.proofs.Common.{Bool, true, false, refl, sym, ap, ◌∙◌, inl, inr, subst, get_or-set_same}
use Rattle.std.proofs.Common.{get_or-set_other}
use Rattle.std.specs.Prelude.{◌==◌, slice_index, slice_set, if◌then◌else◌}
use Rattle.std.proofs.lemmas.Bool.{cases_lt, cases_eq, agree_below_at, eq-eqb, ne_eqb}
use Rattle.std.proofs.lemmas.Bool.Decides.{nat_tests}
use Rattle.c62_row.specs.declared.row.Uses.{Uses}
use Rattle.c62_row.specs.declared.row.TheConstants.{START}
use Rattle.c62_row.specs.declared.row.Row.{Row}
use Rattle.c62_row.specs.Fields.{count_at}
use Rattle.c62_row.specs.Fields.{field_at, EachField, EachPlace, IsClear, IsFirstHigh}
use Rattle.c62_row.specs.Row.{row_at, uses_at, start_at, Fits, IsFirstOver, IsWithin}

-- the field of a place in a word
pub at-word : (words : List ℕ) (w j : ℕ) → j < 16 → field_at words (16 * w + j) ≡ count_at (slice_index words w) j
at-word words w j low =
    let word : (16 * w + j) / 16 ≡ w = omega (arith, low) in
    let field : (16 * w + j) % 16 ≡ j = omega (arith, low) in
    ap (λ (v : ℕ). count_at (slice_index words v) ((16 * w + j) % 16)) word ∙ ap (count_at (slice_index words w)) field

pub at-first : (words : List ℕ) (j : ℕ) → j < 16 → field_at words j ≡ count_at (slice_index words 0) j
at-first words j low = (let e : j ≡ 16 * 0 + j = omega arith in ap (field_at words) e ∙ at-word words 0 j low)

pub at-second : (words : List ℕ) (j : ℕ) → j < 16 → field_at words (16 + j) ≡ count_at (slice_index words 1) j
at-second words j low = at-word words 1 j low

pub at-third : (words : List ℕ) (j : ℕ) → j < 16 → field_at words (32 + j) ≡ count_at (slice_index words 2) j
at-third words j low = at-word words 2 j low

-- each place is in one of the three
pub by-words : (Holds : ℕ → Type 0) → EachField Holds → EachField (λ j. Holds (16 + j))
    → EachField (λ j. Holds (32 + j)) → EachPlace Holds
by-words Holds one two three place low = elim (cases_lt place 16) [
  | inl in_one ↦ one place in_one
  | inr past ↦ elim (cases_lt place 32) [
    | inl in_two ↦ (let e : 16 + (place - 16) ≡ place = omega (arith, past) in subst Holds e
        (two (place - 16) (omega (arith, past, in_two))))
    | inr past_two ↦ (let e : 32 + (place - 32) ≡ place = omega (arith, past_two) in subst Holds e
        (three (place - 32) (omega (arith, past_two, low))))
  ]
]

-- ---- sums

abbrev pub IsSumAt : ℕ → ℕ → Row → Uses → Type 0
IsSumAt w word row uses = EachField
    (λ j. count_at word j ≡ count_at (slice_index row.words w) j + count_at (slice_index uses.words w) j)

pub no-carry : (w : ℕ) (row : Row) (uses : Uses) → w < 3
    → EachField (λ j. count_at (slice_index row.words w) j + count_at (slice_index uses.words w) j < 16)
no-carry w row uses few j low =
    omega (
      arith,
      row.small (16 * w + j) (omega (arith, few, low)),
      uses.few (16 * w + j) (omega (arith, few, low)),
      at-word row.words w j low,
      at-word uses.words w j low,
    )

pub no-borrow : (w : ℕ) (row : Row) (uses : Uses) → w < 3 → IsWithin row uses
    → EachField (λ j. count_at (slice_index uses.words w) j ≤ count_at (slice_index row.words w) j)
no-borrow w row uses few within j low =
    omega (arith, within (16 * w + j) (omega (arith, few, low)), at-word row.words w j low, at-word uses.words w j low)

abbrev pub Below : Row → Uses → ℕ → Type 0
Below row uses place = row_at row place + uses_at uses place < 8

-- a word's fields are sums
sum-is : (w : ℕ) (row : Row) (uses : Uses) (word j : ℕ) → IsSumAt w word row uses → j < 16
    → row_at row (16 * w + j) + uses_at uses (16 * w + j) ≡ count_at word j
sum-is w row uses word j is low = omega (arith, is j low, at-word row.words w j low, at-word uses.words w j low)

-- a word without a high field
below : (w : ℕ) (row : Row) (uses : Uses) (word : ℕ) → IsSumAt w word row uses → IsClear word
    → EachField (λ j. row_at row (16 * w + j) + uses_at uses (16 * w + j) < 8)
below w row uses word is clear j low = omega (arith, clear j low, sum-is w row uses word j is low)

pub fits-of : (row : Row) (uses : Uses) (one two three : ℕ) → IsSumAt 0 one row uses → IsSumAt 1 two row uses
    → IsSumAt 2 three row uses
    → IsClear one → IsClear two → IsClear three → Fits row uses
fits-of row uses one two three is_one is_two is_three a b c =
    by-words (λ place. row_at row place + uses_at uses place < 8)
    (λ j low. (let at = below 0 row uses one is_one a j low in subst (Below row uses) (omega arith) at))
    (below 1 row uses two is_two b) (below 2 row uses three is_three c)

pub word-clear : (w : ℕ) (row : Row) (uses : Uses) (word : ℕ) → w < 3 → IsSumAt w word row uses → Fits row uses
    → IsClear word
word-clear w row uses word few is fits j low = omega
    (arith, fits (16 * w + j) (omega (arith, few, low)), sum-is w row uses word j is low)

-- the first high field of a word, where those of the words before it are low
pub over-in : (w : ℕ) (row : Row) (uses : Uses) (word j : ℕ) → w < 3 → IsSumAt w word row uses
    → ((other : ℕ) → other < 16 * w → row_at row other + uses_at uses other < 8) → IsFirstHigh word j
    → IsFirstOver row uses (16 * w + j)
over-in w row uses word j few is before high = record {
  within = omega (arith, few, high.within);
  over = omega (arith, high.high, sum-is w row uses word j is high.within);
  first = λ other lt. elim (cases_lt other (16 * w)) [
    | inl low ↦ before other low
    | inr past ↦
        let k = other - 16 * w in
        let e : 16 * w + k ≡ other = omega (arith, past) in
        subst (Below row uses) e
        (omega (
          arith,
          high.first k (omega (arith, past, lt)),
          sum-is w row uses word k is
              (omega (arith, past, lt, high.within)),
        ))
  ];
}

-- those before the second word, and before the third
pub before-second : (row : Row) (uses : Uses) (one : ℕ) → IsSumAt 0 one row uses → IsClear one → (other : ℕ)
    → other < 16 → Below row uses other
before-second row uses one is clear other low = subst (Below row uses) (omega arith)
    (below 0 row uses one is clear other low)

pub before-third : (row : Row) (uses : Uses) (one two : ℕ) → IsSumAt 0 one row uses → IsSumAt 1 two row uses
    → IsClear one → IsClear two → (other : ℕ) → other < 32
    → Below row uses other
before-third row uses one two is is_too clear clear_too other low = elim (cases_lt other 16) [
  | inl first ↦ before-second row uses one is clear other first
  | inr past ↦ (let e : 16 * 1 + (other - 16) ≡ other = omega (arith, past) in
      subst (Below row uses) e (below 1 row uses two is_too clear_too (other - 16) (omega (arith, past, low))))
]

-- ---- one word written

abbrev one : Bool → ℕ
one test = if test then 1 else 0

-- where nothing is taken
pub unused : (place : ℕ) → place < 48 → field_at START place ≡ start_at place
unused place low =
    let is = agree_below_at (λ k. field_at START k == start_at k) (λ k. true) 48 place refl low in
    grind (arith, nat_tests)

pub zeros : (place : ℕ) → place < 48 → field_at (0 ∷ 0 ∷ 0 ∷ []) place ≡ 0
zeros place low =
    let is = agree_below_at (λ k. field_at (0 ∷ 0 ∷ 0 ∷ []) k == 0) (λ k. true) 48 place refl low in
    grind (arith, nat_tests)

same-test : (at place : ℕ) → place / 16 ≡ at / 16 → one (at % 16 == place % 16) ≡ one (at == place)
same-test at place word = elim (cases_eq at place) [
  | inl e ↦ (let f : (at % 16 == place % 16) ≡ true = eq-eqb (at % 16) (place % 16) (omega (arith, e)) in ap one f
      ∙ sym (ap one (eq-eqb at place e)))
  | inr ne ↦
      let f : (at % 16 == place % 16) ≡ false = ne_eqb (at % 16) (place % 16) (λ e. ne (omega (arith, e, word))) in
      ap one f ∙ sym (ap one (ne_eqb at place ne))
]

other-test : (at place : ℕ) → at ≢ place → one (at == place) ≡ 0
other-test at place ne = ap one (ne_eqb at place ne)

-- one more at a place
pub one-more-at : (words : List ℕ) (at w x place : ℕ) → w < length words → w ≡ at / 16
    → EachField (λ j. count_at x j ≡ count_at (slice_index words w) j + (if at % 16 == j then 1 else 0))
    → field_at (slice_set words w x) place ≡ field_at words place + (if at == place then 1 else 0)
one-more-at words at w x place low word more = elim (cases_eq (place / 16) w) [
  | inl same ↦
      let here : slice_index (slice_set words w x) (place / 16) ≡ x = ap (slice_index (slice_set words w x)) same
      ∙ get_or-set_same words w x 0 low in
      let new : field_at (slice_set words w x) place ≡ count_at x (place % 16) = ap (λ (n : ℕ). count_at n (place % 16))
      here in
      let old : field_at words place ≡ count_at (slice_index words w) (place % 16) = ap
      (λ (v : ℕ). count_at (slice_index words v) (place % 16)) same in
      let step = more (place % 16) (omega arith) in
      omega (arith, new, old, step, same-test at place (omega (arith, same, word)))
  | inr apart ↦
      let there : slice_index (slice_set words w x) (place / 16) ≡ slice_index words (place / 16) = get_or-set_other
      words w (place / 16) x 0 apart in
      let new : field_at (slice_set words w x) place ≡ field_at words place = ap (λ (n : ℕ). count_at n (place % 16))
      there in
      omega (arith, new, other-test at place (λ e. apart (omega (arith, e, word))))
]
