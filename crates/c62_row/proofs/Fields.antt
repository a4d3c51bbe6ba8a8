-- Words of sixteen fields of four bits: their sums, differences, and the highest bit of each field.
use Rattle.std.proofs.Common.{arith, ◌≡◌, ◌≢◌, ℕ, zero, suc, ◌+◌, ◌-◌, ◌*◌, ◌/◌, ◌%◌, ◌^◌, ◌<◌, ◌≤◌, min, max, w64}
use Rattle.std.proofs.Common.{bit_and, bit_or, true, refl, sym, ap, ◌∙◌, inl, inr, zero-add}
use Rattle.std.specs.Prelude.{◌==◌, ◌↔◌, if◌then◌else◌}
use Rattle.std.specs.Int.{bit_at, trailing_zeros}
use Rattle.std.proofs.Math.Nat.{div-div-eq-div-mul}
use Rattle.std.proofs.Math.Nat.{zero-div}
use Rattle.std.proofs.lemmas.Nat.{pow-add, and_le_r, and_shr, and_mod, one_shl}
use Rattle.std.proofs.lemmas.Nat.Bits.{bit_at_and, bit_at_or, bit_at-lt, bit_at-zero, bit_at_above, same_from_bits}
use Rattle.std.proofs.lemmas.Nat.Bits.{bit_at-trailing_zeros, and_pow}
use Rattle.std.proofs.lemmas.Bool.{cases_eq, cases_lt, agree_below_at}
use Rattle.std.proofs.lemmas.Bool.Decides.{nat_tests}
use Rattle.c62_row.specs.Fields.{count_at}
use Rattle.c62_row.specs.Fields.{IsClear, IsFirstHigh}
use Rattle.c62_row.proofs.Digits.{same_more, other_stays}

-- what is left of a number above its fields so far
abbrev above : ℕ → ℕ → ℕ
above n k = n / 2 ^ (4 * k)

next : (n k : ℕ) → above n (suc k) ≡ above n k / 16
next n k =
    let more : 4 * suc k ≡ 4 * k + 4 = omega arith in
    let power : 2 ^ (4 * suc k) ≡ 2 ^ (4 * k) * 16 = ap (λ (e : ℕ). 2 ^ e) more ∙ pow-add 2 (4 * k) 4 in
    ap (λ (d : ℕ). n / d) power ∙ sym (div-div-eq-div-mul n (2 ^ (4 * k)) 16)

-- ---- sums

-- where no field carries, what stands above the fields is added too
added : (a b k : ℕ) → ((j : ℕ) → j < k → count_at a j + count_at b j < 16) → above (a + b) k ≡ above a k + above b k
added a b zero low = omega arith
added a b (suc k) low =
    let whole : above (a + b) k ≡ above a k + above b k = added a b k (λ j lt. low j (omega (arith, lt))) in
    omega (arith, whole, low k (omega arith), next (a + b) k, next a k, next b k)

pub count-sum : (a b k : ℕ) → ((j : ℕ) → j ≤ k → count_at a j + count_at b j < 16)
    → count_at (a + b) k ≡ count_at a k + count_at b k
count-sum a b k low =
    let whole : above (a + b) k ≡ above a k + above b k = added a b k (λ j lt. low j (omega (arith, lt))) in
    omega (arith, whole, low k (omega arith))

pub sum-fits : (a b : ℕ) → a < 2 ^ 64 → b < 2 ^ 64 → ((j : ℕ) → j < 16 → count_at a j + count_at b j < 16)
    → a + b < 2 ^ 64
sum-fits a b a_fits b_fits low =
    let whole : (a + b) / 2 ^ 64 ≡ a / 2 ^ 64 + b / 2 ^ 64 = added a b 16 low in
    omega (arith, whole, a_fits, b_fits)

-- ---- differences

-- what stands above the fields is no more, where no field is more
no-more : (a b m k : ℕ) → k + m ≡ 16 → b < 2 ^ 64 → ((j : ℕ) → j < 16 → count_at b j ≤ count_at a j)
    → above b k ≤ above a k
no-more a b zero k top fits less =
    let last : k ≡ 16 = omega (arith, top) in
    let none : above b k ≡ 0 = ap (above b) last ∙ omega (arith, fits) in
    omega (arith, none)
no-more a b (suc m) k top fits less =
    let up : above b (suc k) ≤ above a (suc k) = no-more a b m (suc k) (omega (arith, top)) fits less in
    omega (arith, up, next b k, next a k, less k (omega (arith, top)))

pub no-greater : (a b : ℕ) → b < 2 ^ 64 → ((j : ℕ) → j < 16 → count_at b j ≤ count_at a j) → b ≤ a
no-greater a b fits less =
    (let le : above b 0 ≤ above a 0 = no-more a b 16 0 (omega arith) fits less in omega (arith, le))

taken-off : (a b k : ℕ) → k ≤ 16 → b < 2 ^ 64 → ((j : ℕ) → j < 16 → count_at b j ≤ count_at a j)
    → above (a - b) k ≡ above a k - above b k
taken-off a b zero low fits less = omega arith
taken-off a b (suc k) low fits less =
    let whole : above (a - b) k ≡ above a k - above b k = taken-off a b k (omega (arith, low)) fits less in
    let le : above b k ≤ above a k = no-more a b (16 - k) k (omega (arith, low)) fits less in
    omega (arith, whole, le, less k (omega (arith, low)), next (a - b) k, next a k, next b k)

pub count-difference : (a b k : ℕ) → k < 16 → b < 2 ^ 64 → ((j : ℕ) → j < 16 → count_at b j ≤ count_at a j)
    → count_at (a - b) k ≡ count_at a k - count_at b k
count-difference a b k low fits less =
    let whole : above (a - b) k ≡ above a k - above b k = taken-off a b k (omega (arith, low)) fits less in
    let le : above b k ≤ above a k = no-more a b (16 - k) k (omega (arith, low)) fits less in
    omega (arith, whole, le, less k low)

-- ---- the highest bit of each field

abbrev pub guards : ℕ
guards = 0x8888_8888_8888_8888

-- it is set where the field is 8 or more
high-bit : (n k : ℕ) → bit_at n (4 * k + 3) ≡ count_at n k / 8
high-bit n k =
    let power : 2 ^ (4 * k + 3) ≡ 2 ^ (4 * k) * 8 = pow-add 2 (4 * k) 3 in
    let part : n / 2 ^ (4 * k + 3) ≡ above n k / 8 = ap (λ (d : ℕ). n / d) power
    ∙ sym (div-div-eq-div-mul n (2 ^ (4 * k)) 8) in
    omega (arith, part)

-- the bits of the guards, all 64 of them
guard-bits : (i : ℕ) → i < 64 → (bit_at guards i == 1) ≡ (i % 4 == 3)
guard-bits i low = agree_below_at (λ k. bit_at guards k == 1) (λ k. k % 4 == 3) 64 i refl low

guard-high : (k : ℕ) → k < 16 → bit_at guards (4 * k + 3) ≡ 1
guard-high k low = (let is = guard-bits (4 * k + 3) (omega (arith, low)) in grind (arith, nat_tests))

guard-other : (i : ℕ) → i < 64 → i % 4 ≢ 3 → bit_at guards i ≡ 0
guard-other i low other = (let is = guard-bits i low in let two = bit_at-lt guards i in grind (arith, nat_tests))

guard-past : (i : ℕ) → 64 ≤ i → bit_at guards i ≡ 0
guard-past i past = bit_at_above guards 64 i (omega arith) past

pub all-clear : (n : ℕ) → bit_and n guards ≡ 0 → (k : ℕ) → k < 16 → count_at n k < 8
all-clear n none k low =
    let is : bit_at (bit_and n guards) (4 * k + 3) ≡ 0 = ap (λ (x : ℕ). bit_at x (4 * k + 3)) none
    ∙ bit_at-zero (4 * k + 3) in
    omega (arith, is, bit_at_and n guards (4 * k + 3), guard-high k low, high-bit n k)

pub clear-all : (n : ℕ) → ((k : ℕ) → k < 16 → count_at n k < 8) → bit_and n guards ≡ 0
clear-all n few = same_from_bits (bit_and n guards) 0 (λ i. both i ∙ sym (bit_at-zero i))
  where
    both : (i : ℕ) → bit_at (bit_and n guards) i ≡ 0
    both i = elim (cases_lt i 64) [
      | inr past ↦ omega (arith, bit_at_and n guards i, guard-past i past)
      | inl low ↦ elim (cases_eq (i % 4) 3) [
        | inr other ↦ omega (arith, bit_at_and n guards i, guard-other i low other)
        | inl high ↦
            let at : i ≡ 4 * (i / 4) + 3 = omega (arith, high) in
            let own : bit_at n i ≡ count_at n (i / 4) / 8 = ap (bit_at n) at ∙ high-bit n (i / 4) in
            omega (arith, bit_at_and n guards i, own, few (i / 4) (omega (arith, low)))
      ]
    ]

or-clear : (a b : ℕ) → IsClear (bit_or a b) ↔ (IsClear a × IsClear b)
or-clear a b = (
  (λ clear. (
    (λ j low. omega (arith, clear j low, joined j, high-bit a j, high-bit (bit_or a b) j)),
    (λ j low. omega (arith, clear j low, joined j, high-bit b j, high-bit (bit_or a b) j)),
  )),
  (λ clear j low. omega
      (arith, clear.0 j low, clear.1 j low, joined j, high-bit a j, high-bit b j, high-bit (bit_or a b) j)),
)
  where
    joined : (j : ℕ) → bit_at (bit_or a b) (4 * j + 3) ≡ max (bit_at a (4 * j + 3)) (bit_at b (4 * j + 3))
    joined j = bit_at_or a b (4 * j + 3)

pub three-clear : (a b c : ℕ) → (bit_and (bit_or (bit_or a b) c) guards ≡ 0) ↔ (IsClear a × IsClear b × IsClear c)
three-clear a b c = (
  (λ none. (let both = (or-clear (bit_or a b) c).0 (all-clear (bit_or (bit_or a b) c) none) in let two =
      (or-clear a b).0 both.0 in (two.0, two.1, both.1))),
  (λ clear. clear-all (bit_or (bit_or a b) c)
      ((or-clear (bit_or a b) c).1 ((or-clear a b).1 (clear.0, clear.1), clear.2))),
)

-- the lowest of them that is set tells the first such field
pub first-high : (n : ℕ) → 0 < bit_and n guards → IsFirstHigh n (trailing_zeros w64 (bit_and n guards) / 4)
first-high n some = record {
  within = omega (arith, lowest.0);
  high = omega (arith, set, high-bit n place, bit_at-lt n (4 * place + 3));
  first = λ j lt.
      let clear : bit_at (bit_and n guards) (4 * j + 3) ≡ 0 = lowest.2 (4 * j + 3) (omega (arith, lt, at)) in
      omega (
        arith,
        clear,
        bit_at_and n guards (4 * j + 3),
        guard-high j (omega (arith, lt, at, lowest.0)),
        high-bit n
            j,
      );
}
  where
    bit : ℕ
    bit = trailing_zeros w64 (bit_and n guards)

    place : ℕ
    place = bit / 4

    lowest : (bit < 64) × (bit_at (bit_and n guards) bit ≡ 1) × ((i : ℕ) → i < bit → bit_at (bit_and n guards) i ≡ 0)
    lowest = bit_at-trailing_zeros w64 (bit_and n guards) some (omega (arith, and_le_r n guards))

    high-place : bit % 4 ≡ 3
    high-place = elim (cases_eq (bit % 4) 3) [
      | inl is ↦ is
      | inr other ↦ absurd (omega (arith, lowest.1, bit_at_and n guards bit, guard-other bit lowest.0 other))
    ]

    at : bit ≡ 4 * place + 3
    at = omega (arith, high-place)

    set : bit_at n (4 * place + 3) ≡ 1
    set = omega (arith, lowest.1, bit_at_and n guards bit, bit_at-lt guards bit, bit_at-lt n bit, ap (bit_at n) at)

-- ---- one in a field

none-in : (j : ℕ) → count_at 0 j ≡ 0
none-in j = (let none : above 0 j ≡ 0 = zero-div (2 ^ (4 * j)) in omega (arith, none))

one-in : (k j : ℕ) → count_at (2 ^ (4 * k)) j ≡ (if k == j then 1 else 0)
one-in k j = elim (cases_eq j k) [
  | inl same ↦
      let here : count_at (0 + 2 ^ (4 * k)) k ≡ count_at 0 k + 1 = same_more 0 k (omega (arith, none-in k)) in
      let bare : count_at (0 + 2 ^ (4 * k)) k ≡ count_at (2 ^ (4 * k)) k = ap (λ (n : ℕ). count_at n k)
      (zero-add (2 ^ (4 * k))) in
      let whole : count_at (2 ^ (4 * k)) k ≡ 1 = omega (arith, here, bare, none-in k) in
      rw same (grind (arith, nat_tests))
  | inr apart ↦
      let there : count_at (0 + 2 ^ (4 * k)) j ≡ count_at 0 j = other_stays 0 k j (omega (arith, none-in k)) apart in
      let bare : count_at (0 + 2 ^ (4 * k)) j ≡ count_at (2 ^ (4 * k)) j = ap (λ (n : ℕ). count_at n j)
      (zero-add (2 ^ (4 * k))) in
      let whole : count_at (2 ^ (4 * k)) j ≡ 0 = omega (arith, there, bare, none-in j) in
      grind (arith, nat_tests)
]

-- as code has it
pub one-shifted : (k j : ℕ) → k < 16 → count_at (1 * 2 ^ (4 * k) % 2 ^ 64) j ≡ (if k == j then 1 else 0)
one-shifted k j low = ap (λ (n : ℕ). count_at n j) (one_shl (4 * k) 64 (omega (arith, low))) ∙ one-in k j

pub at-most-one : (k j : ℕ) → (if k == j then 1 else 0) ≤ 1
at-most-one k j = grind (arith, nat_tests)

-- ---- 8 for more

field-and : (a b j : ℕ) → count_at (bit_and a b) j ≡ bit_and (count_at a j) (count_at b j)
field-and a b j = ap (λ (n : ℕ). n % 16) (and_shr a b (4 * j)) ∙ and_mod (above a j) (above b j) 4

guard-field : (j : ℕ) → j < 16 → count_at guards j ≡ 8
guard-field j low = (let is = agree_below_at (λ k. count_at guards k == 8) (λ k. true) 16 j refl low in grind
    (arith, nat_tests))

full-field : (j : ℕ) → j < 16 → count_at 0xffff_ffff_ffff_ffff j ≡ 15
full-field j low = (let is = agree_below_at (λ k. count_at 0xffff_ffff_ffff_ffff k == 15) (λ k. true) 16 j refl low in
    grind (arith, nat_tests))

masked : (x : ℕ) → x < 16 → bit_and x (15 - 7 * (x / 8)) ≡ min 8 x
masked x low = (let is = agree_below_at (λ k. bit_and k (15 - 7 * (k / 8)) == min 8 k) (λ k. true) 16 x refl low in
    grind (arith, nat_tests))

high-field : (n j : ℕ) → j < 16 → count_at (bit_and n guards) j ≡ 8 * (count_at n j / 8)
high-field n j low =
    let at : count_at (bit_and n guards) j ≡ bit_and (count_at n j) 8 = field-and n guards j
    ∙ ap (bit_and (count_at n j)) (guard-field j low) in
    omega (arith, at, and_pow (count_at n j) 3)

module _ (n : ℕ) where
  abbrev high : ℕ
  high = bit_and n guards

  high-fits : high < 2 ^ 64
  high-fits = omega (arith, and_le_r n guards)

  -- the fields above are 0 or 8
  up-even : (j : ℕ) → j < 16 → above high (suc j) % 8 ≡ 0
  up-even j low = elim (cases_lt (suc j) 16) [
    | inl more ↦ omega (arith, high-field n (suc j) more)
    | inr last ↦
        let top : suc j ≡ 16 = omega (arith, low, last) in
        let none : above high (suc j) ≡ 0 = ap (above high) top ∙ omega (arith, high-fits) in
        omega (arith, none)
  ]

  shifted-field : (j : ℕ) → j < 16 → count_at (high / 8) j ≡ count_at n j / 8
  shifted-field j low =
      let turned : high / 8 / 2 ^ (4 * j) ≡ above high j / 8 =
      div-div-eq-div-mul high 8 (2 ^ (4 * j)) ∙ ap (λ (d : ℕ). high / d) (omega arith)
      ∙ sym (div-div-eq-div-mul high (2 ^ (4 * j)) 8) in
      omega (arith, turned, high-field n j low, up-even j low, next high j)

  abbrev mask : ℕ
  mask = high - high / 8

  mask-field : (j : ℕ) → j < 16 → count_at mask j ≡ 7 * (count_at n j / 8)
  mask-field j low =
      let is : count_at mask j ≡ count_at high j - count_at (high / 8) j = count-difference high (high / 8) j low
      (omega (arith, high-fits)) (λ k few. omega (arith, high-field n k few, shifted-field k few)) in
      omega (arith, is, high-field n j low, shifted-field j low)

  rest-field : (j : ℕ) → j < 16 → count_at (0xffff_ffff_ffff_ffff - mask) j ≡ 15 - 7 * (count_at n j / 8)
  rest-field j low =
      let is : count_at (0xffff_ffff_ffff_ffff - mask) j ≡ count_at 0xffff_ffff_ffff_ffff j - count_at mask j =
      count-difference 0xffff_ffff_ffff_ffff mask j low (omega (arith, high-fits))
      (λ k few. omega (arith, full-field k few, mask-field k few)) in
      omega (arith, is, full-field j low, mask-field j low)

  pub capped-field : (j : ℕ) → j < 16
      → count_at (bit_and n (0xffff_ffff_ffff_ffff - (bit_and n guards - bit_and n guards / 8))) j ≡ min 8
      (count_at n j)
  capped-field j low = field-and n (0xffff_ffff_ffff_ffff - mask) j ∙ ap (bit_and (count_at n j)) (rest-field j low)
      ∙ masked (count_at n j) (omega arith)
