-- Sets of numbers, by their words.
use Rattle.c62_depend.proofs.Common.{◌≡◌, ◌≢◌, ℕ, zero, suc, ◌+◌, ◌-◌, ◌*◌, ◌^◌, ◌%◌, ◌<◌, ◌≤◌, Bool, true, false, List}
use Rattle.c62_depend.proofs.Common.{[], ◌∷◌, length, set}
use Rattle.c62_depend.proofs.Common.{refl, sym, ap, ◌∙◌, arith, inl, inr, nat_tests, ◌==◌, ◌||◌, bit_or, bit_at}
use Rattle.c62_depend.proofs.Common.{slice_index, get_or, cases_eq, cases_lt}
use Rattle.c62_depend.proofs.Common.{get_or-set_at, get_or-set_other, Option, Some, None}
use Rattle.std.proofs.Common.{◌/◌, w64}
use Rattle.std.specs.Prelude.{replicate}
use Rattle.std.proofs.lemmas.Nat.Bits.{bit_at-zero, bit_at_set_same, bit_at_set_other, bit_at_or, bit_at-lt}
use Rattle.c62_depend.proofs.Words.{IsLowest, lowest_of_64, bit_within, no_more}
use Rattle.std.proofs.Math.Nat.{div-le_self}
use Rattle.c62_depend.proofs.Common.{trailing_zeros}
use Rattle.c62_read.specs.declared.limits.TheConstants.{MOST_INSTRUCTIONS}

-- the bit of a number
abbrev pub bit_of : List ℕ → ℕ → Bool
bit_of words k = bit_at (slice_index words (k / 64)) (k % 64) == 1

pub zeros_at : (count index : ℕ) → slice_index (replicate count 0) index ≡ 0
zeros_at zero index = refl
zeros_at (suc count) zero = refl
zeros_at (suc count) (suc index) = zeros_at count index

pub none_in : (count k : ℕ) → bit_of (replicate count 0) k ≡ false
none_in count k = rw (zeros_at count (k / 64), bit_at-zero (k % 64)) refl

-- a number more
pub with_number : (words : List ℕ) (k other : ℕ) → k / 64 < length words
    → bit_of (set words (k / 64) (bit_or (slice_index words (k / 64)) (1 * 2 ^ (k % 64) % 2 ^ 64))) other ≡
    (bit_of words other || (other == k))
with_number words k other within = elim (cases_eq (other / 64) (k / 64)) [
  | inl same ↦
      rw (
        get_or-set_at words (k / 64) (other / 64) (bit_or (slice_index words (k / 64)) (1 * 2 ^ (k % 64) % 2 ^ 64)) 0
            same within,
        same,
      )
      (elim (cases_eq (other % 64) (k % 64)) [
        | inl bit ↦
            let here : other ≡ k = omega arith in
            rw (bit, bit_at_set_same w64 (slice_index words (k / 64)) (k % 64) (omega arith)) (grind (arith, nat_tests))
        | inr apart ↦
            let there : other ≢ k = λ e. apart (ap (λ n. n % 64) e) in
            rw (bit_at_set_other w64 (slice_index words (k / 64)) (k % 64) (omega arith) (other % 64) apart)
            (grind (arith, nat_tests))
      ])
  | inr apart ↦
      let there : other ≢ k = λ e. apart (ap (λ n. n / 64) e) in
      rw (get_or-set_other words (k / 64) (other / 64) (bit_or (slice_index words (k / 64)) (1 * 2 ^ (k % 64) % 2 ^ 64))
      0 apart) (grind (arith, nat_tests))
]

-- the numbers of two sets
either_bit : (x y n : ℕ) → (bit_at (bit_or x y) n == 1) ≡ ((bit_at x n == 1) || (bit_at y n == 1))
either_bit x y n = grind (arith, nat_tests, bit_at_or x y n, bit_at-lt x n, bit_at-lt y n)

past : (words : List ℕ) (index : ℕ) → length words ≤ index → slice_index words index ≡ 0
past [] index h = refl
past (w ∷ words) zero h = absurd (omega (arith, h))
past (w ∷ words) (suc index) h = past words index (omega arith)

pub joined_numbers : (xs ys : List ℕ) (k : ℕ) → length xs ≡ 4 → length ys ≡ 4
    → bit_of (bit_or (slice_index xs 0) (slice_index ys 0) ∷ bit_or (slice_index xs 1) (slice_index ys 1)
    ∷ bit_or (slice_index xs 2) (slice_index ys 2) ∷ bit_or (slice_index xs 3) (slice_index ys 3) ∷ []) k
    ≡ (bit_of xs k || bit_of ys k)
joined_numbers xs ys k long wide = at (k / 64) (k % 64)
  where
    at : (index n : ℕ) → (bit_at
        (slice_index (bit_or (slice_index xs 0) (slice_index ys 0) ∷ bit_or (slice_index xs 1) (slice_index ys 1)
        ∷ bit_or (slice_index xs 2) (slice_index ys 2) ∷ bit_or (slice_index xs 3) (slice_index ys 3) ∷ []) index) n ==
        1)
        ≡ ((bit_at (slice_index xs index) n == 1) || (bit_at (slice_index ys index) n == 1))
    at zero n = either_bit (slice_index xs 0) (slice_index ys 0) n
    at (suc zero) n = either_bit (slice_index xs 1) (slice_index ys 1) n
    at (suc (suc zero)) n = either_bit (slice_index xs 2) (slice_index ys 2) n
    at (suc (suc (suc zero))) n = either_bit (slice_index xs 3) (slice_index ys 3) n
    at (suc (suc (suc (suc index)))) n =
        rw (
          past xs (suc (suc (suc (suc index)))) (omega arith),
          past ys (suc (suc (suc (suc index)))) (omega arith),
          bit_at-zero n,
        ) refl

-- ---- the next number

-- none from one number on and before another
abbrev pub AreNone : List ℕ → ℕ → ℕ → Type 0
AreNone words from at = (k : ℕ) → from ≤ k → k < at → bit_of words k ≡ false

no_bit : (n : ℕ) → n ≡ 0 → (n == 1) ≡ false
no_bit n none = rw none refl

-- none was found before a place
pub record IsSearched (words : List ℕ) (from at : ℕ) : Type 0 where
  pub behind : from ≤ at
  pub none : AreNone words from at

-- the lowest bit from a place on
pub lowest_from : (word at : ℕ) → word < 2 ^ 64 → 0 < word / 2 ^ at
    → IsLowest word at (word / 2 ^ at) (trailing_zeros w64 (word / 2 ^ at))
lowest_from word at fits some =
    let small : word / 2 ^ at ≤ word = div-le_self word (2 ^ at) in lowest_of_64 word at (word / 2 ^ at) (omega arith)
    refl some

module _ (words : List ℕ) (from at : ℕ) where
  pub place_within : (skipped : ℕ) → slice_index words (at / 64) < 2 ^ 64
      → IsLowest (slice_index words (at / 64)) (at % 64) (slice_index words (at / 64) / 2 ^ (at % 64)) skipped
      → at % 64 + skipped < 64
  place_within skipped fits low = bit_within (slice_index words (at / 64)) 64 (at % 64 + skipped) fits low.set

  pub next_is : (skipped : ℕ) → slice_index words (at / 64) < 2 ^ 64
      → IsLowest (slice_index words (at / 64)) (at % 64) (slice_index words (at / 64) / 2 ^ (at % 64)) skipped
      → bit_of words (at + skipped) ≡ true
  next_is skipped fits low =
      let within = place_within skipped fits low in
      let word : (at + skipped) / 64 ≡ at / 64 = omega arith in
      let bit : (at + skipped) % 64 ≡ at % 64 + skipped = omega arith in
      rw (word, bit, low.set) refl

  pub none_to : (skipped : ℕ) → AreNone words from at → slice_index words (at / 64) < 2 ^ 64
      → IsLowest (slice_index words (at / 64)) (at % 64) (slice_index words (at / 64) / 2 ^ (at % 64)) skipped
      → AreNone words from (at + skipped)
  none_to skipped before fits low k behind below = elim (cases_lt k at) [
    | inl earlier ↦ before k behind earlier
    | inr later ↦
        let within = place_within skipped fits low in
        let word : k / 64 ≡ at / 64 = omega arith in
        rw word (no_bit (bit_at (slice_index words (at / 64)) (k % 64)) (low.none (k % 64) (omega arith) (omega arith)))
  ]

  pub none_further : AreNone words from at → 0 ≡ slice_index words (at / 64) / 2 ^ (at % 64)
      → AreNone words from ((at / 64 + 1) * 64)
  none_further before none k behind below = elim (cases_lt k at) [
    | inl earlier ↦ before k behind earlier
    | inr later ↦
        let word : k / 64 ≡ at / 64 = omega arith in
        rw word (no_bit (bit_at (slice_index words (at / 64)) (k % 64))
        (no_more (slice_index words (at / 64)) (at % 64) (k % 64) none (omega arith)))
  ]

pub none_behind : (words : List ℕ) (from at : ℕ) → length words ≡ 4 → AreNone words from at
    → MOST_INSTRUCTIONS ≤ at
    → (k : ℕ) → from ≤ k → bit_of words k ≡ false
none_behind words from at long before end k behind = elim (cases_lt k at) [
  | inl earlier ↦ before k behind earlier
  | inr later ↦
      let high : 4 ≤ k / 64 = omega arith in
      rw (past words (k / 64) (omega arith)) (no_bit (bit_at 0 (k % 64)) (bit_at-zero (k % 64)))
]
