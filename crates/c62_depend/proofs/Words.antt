-- The bits of a word, one after the other from the lowest.
use Rattle.c62_depend.proofs.Common.{◌≡◌, ℕ, zero, ◌+◌, ◌-◌, ◌*◌, ◌^◌, ◌%◌, ◌<◌, ◌≤◌, List, length, set, get_or, refl}
use Rattle.c62_depend.proofs.Common.{sym, ap, ◌∙◌, arith, inl, inr, bit_or}
use Rattle.c62_depend.proofs.Common.{slice_index, bit_at, trailing_zeros, cases_lt, cases_eq, get_or-set_other}
use Rattle.c62_depend.proofs.Common.{get_or-set_at}
use Rattle.std.proofs.Common.{◌/◌, w32, w64}
use Rattle.std.proofs.Math.Nat.{div-le_self}
use Rattle.std.proofs.lemmas.Nat.{shr-shr}
use Rattle.std.proofs.lemmas.Nat.Bits.{bit_at-trailing_zeros, bit_at-zero, bit_at_above, bit_at_set_same}
use Rattle.std.proofs.lemmas.Nat.Bits.{bit_at_set_other, bit_at_or, bit_at-lt}
use Rattle.c62_depend.proofs.Common.{true, eqb-true, Reg, RegSet, reg_in}
use Rattle.c62_op.specs.Register.{register_index}

-- the lowest bit from this place on
pub record IsLowest (word at rest skipped : ℕ) : Type 0 where
  pub set : bit_at word (at + skipped) ≡ 1
  pub none : (bit : ℕ) → at ≤ bit → bit < at + skipped → bit_at word bit ≡ 0
  pub next : rest / 2 ^ skipped / 2 ≡ word / 2 ^ (at + skipped + 1)
  pub less : rest / 2 ^ skipped / 2 < rest

moved : (word at rest bit : ℕ) → rest ≡ word / 2 ^ at → bit_at rest bit ≡ bit_at word (at + bit)
moved word at rest bit is = rw is (ap (λ x. x % 2) (shr-shr word at bit))

lowest_is : (word at rest skipped : ℕ) → rest ≡ word / 2 ^ at → 0 < rest → bit_at rest skipped ≡ 1
    → ((bit : ℕ) → bit < skipped → bit_at rest bit ≡ 0)
    → IsLowest word at rest skipped
lowest_is word at rest skipped is some one none = record {
  set = sym (moved word at rest skipped is) ∙ one;
  none = λ bit low high.
      let place : at + (bit - at) ≡ bit = omega arith in
      ap (bit_at word) (sym place) ∙ sym (moved word at rest (bit - at) is) ∙ none (bit - at) (omega arith);
  next = ap (λ n. n / 2 ^ skipped / 2) is ∙ ap (λ n. n / 2) (shr-shr word at skipped) ∙ shr-shr word (at + skipped) 1;
  less = (let low : rest / 2 ^ skipped ≤ rest = div-le_self rest (2 ^ skipped) in omega arith);
}

pub lowest_of_32 : (word at rest : ℕ) → word < 2 ^ 32 → rest ≡ word / 2 ^ at → 0 < rest
    → IsLowest word at rest (trailing_zeros w32 rest)
lowest_of_32 word at rest fits is some =
    let small : rest ≤ word = rw is (div-le_self word (2 ^ at)) in
    let found = bit_at-trailing_zeros w32 rest some (omega arith) in
    lowest_is word at rest (trailing_zeros w32 rest) is some found.1 found.2

pub lowest_of_64 : (word at rest : ℕ) → rest < 2 ^ 64 → rest ≡ word / 2 ^ at → 0 < rest
    → IsLowest word at rest (trailing_zeros w64 rest)
lowest_of_64 word at rest fits is some =
    let found = bit_at-trailing_zeros w64 rest some fits in
    lowest_is word at rest (trailing_zeros w64 rest) is some found.1 found.2

-- no bit from there on
pub no_more : (word at bit : ℕ) → 0 ≡ word / 2 ^ at → at ≤ bit → bit_at word bit ≡ 0
no_more word at bit none low =
    let place : at + (bit - at) ≡ bit = omega arith in
    ap (bit_at word) (sym place) ∙ sym (moved word at 0 (bit - at) none) ∙ bit_at-zero (bit - at)

pub bit_within : (word size bit : ℕ) → word < 2 ^ size → bit_at word bit ≡ 1 → bit < size
bit_within word size bit fits is = elim (cases_lt bit size) [
  | inl low ↦ low
  | inr high ↦ absurd (omega (arith, is, bit_at_above word size bit fits high))
]

-- ---- the registers of a set

pub first_of_set : (set : RegSet) (at rest : ℕ) → rest ≡ set.bits / 2 ^ at → 0 < rest
    → IsLowest set.bits at rest (trailing_zeros w32 rest)
first_of_set set at rest is some = lowest_of_32 set.bits at rest set.within is some

pub first_below : (set : RegSet) (at rest : ℕ) → rest ≡ set.bits / 2 ^ at → 0 < rest → at + trailing_zeros w32 rest < 32
first_below set at rest is some =
    bit_within set.bits 32 (at + trailing_zeros w32 rest) set.within (first_of_set set at rest is some).set

-- where none is left, the bits of a register lie before
pub reg_before : (set : RegSet) (at : ℕ) (reg : Reg) → 0 ≡ set.bits / 2 ^ at → reg_in set reg ≡ true
    → (register_index reg < at) × (bit_at set.bits (register_index reg) ≡ 1)
reg_before set at reg none is =
    let one : bit_at set.bits (register_index reg) ≡ 1 = eqb-true (bit_at set.bits (register_index reg)) 1 is in (
      elim (cases_lt (register_index reg) at) [
        | inl before ↦ before
        | inr behind ↦ absurd (omega (arith, one, no_more set.bits at (register_index reg) none behind))
      ],
      one,
    )
