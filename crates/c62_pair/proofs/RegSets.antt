-- A register more in a set.
use Rattle.c62_pair.proofs.Common.{◌≡◌, ◌≢◌, ℕ, ◌+◌, ◌-◌, ◌*◌, ◌^◌, ◌%◌, ◌<◌, min, Bool, true, false, ◌||◌, refl, sym}
use Rattle.c62_pair.proofs.Common.{ap, ◌∙◌, arith, w32, bit_or}
use Rattle.c62_pair.proofs.Common.{bit_and, inl, inr, ◌==◌, ◌&&◌, bit_at, trailing_zeros, cases_lt, nat_tests, Side}
use Rattle.c62_pair.proofs.Common.{Reg, same_side, same_reg}
use Rattle.c62_pair.proofs.Common.{same_reg-is, same_reg-refl, false_from_ne_true, RegSet, reg_in, shares, both_ways}
use Rattle.std.proofs.lemmas.Nat.Bits.{bit_at_set_same, bit_at_set_other, bit_at_and, bit_at_or, bit_at-lt, bit_at-zero}
use Rattle.std.proofs.lemmas.Nat.Bits.{bit_at-trailing_zeros}
use Rattle.std.proofs.lemmas.Nat.{and-not}
use Rattle.c62_op.specs.declared.register.Side.TheVariants.{A, B}
use Rattle.c62_op.specs.Register.{first_of, register_index}

one_index : (s t : Side) (m n : ℕ) → m < 16 → n < 16 → first_of s + m ≡ first_of t + n
    → (same_side s t && (m == n)) ≡ true
one_index s t m n low below e = grind (arith, nat_tests)

pub index-within : (reg : Reg) → register_index reg < 32
index-within reg = grind (arith, reg.in_range)

pub with_one : (n k : ℕ) (reg other : Reg) → k ≡ register_index reg
    → (bit_at (bit_or n (1 * 2 ^ k % 2 ^ 32)) (register_index other) == 1) ≡
    ((bit_at n (register_index other) == 1) || same_reg reg other)
with_one n k reg other is = by_test (same_reg reg other) refl
  where
    within : k < 32
    within = rw is (index-within reg)

    by_test : (t : Bool) → same_reg reg other ≡ t
        → (bit_at (bit_or n (1 * 2 ^ k % 2 ^ 32)) (register_index other) == 1) ≡
        ((bit_at n (register_index other) == 1) || t)
    by_test true e =
        let same : register_index other ≡ k = ap register_index (sym (same_reg-is reg other e)) ∙ sym is in
        let set : bit_at (bit_or n (1 * 2 ^ k % 2 ^ 32)) k ≡ 1 = bit_at_set_same w32 n k within in
        rw (same, set) (grind (arith, nat_tests))
    by_test false e =
        let apart : register_index other ≢ k = λ same.
        (let one = one_index reg.side other.side reg.number other.number reg.in_range other.in_range (sym (same ∙ is))
        in
        both_ways (same_reg reg other) e one) in
        rw (bit_at_set_other w32 n k within (register_index other) apart) (grind (arith, nat_tests))

pub reg_at : (k : ℕ) → k < 32 → (reg : Reg) × (register_index reg ≡ k)
reg_at k low = elim (cases_lt k 16) [
  | inl few ↦ (record { side = A; number = k; in_range = few }, omega arith)
  | inr many ↦ (record { side = B; number = k - 16; in_range = omega arith }, omega arith)
]

-- two sets that share a register
pub shared : (a b : RegSet) → shares a b ≡ true → (reg : Reg) × (reg_in a reg ≡ true) × (reg_in b reg ≡ true)
shared a b some =
    let more : 0 < bit_and a.bits b.bits = grind (arith, nat_tests) in
    let parts : bit_and (2 ^ 32 - 1 - a.bits) b.bits + bit_and a.bits b.bits ≡ b.bits = and-not 32 a.bits b.bits
    a.within b.within in
    let few : bit_and a.bits b.bits < 2 ^ 32 = omega (arith, b.within) in
    let lowest = bit_at-trailing_zeros w32 (bit_and a.bits b.bits) more few in
    let k : ℕ = trailing_zeros w32 (bit_and a.bits b.bits) in
    let reg = reg_at k lowest.0 in
    let both : min (bit_at a.bits k) (bit_at b.bits k) ≡ 1 = sym (bit_at_and a.bits b.bits k) ∙ lowest.1 in
    let first : bit_at a.bits k ≡ 1 = omega (arith, bit_at-lt a.bits k) in
    let second : bit_at b.bits k ≡ 1 = omega (arith, bit_at-lt b.bits k) in
    (reg.0, rw (reg.1, first) refl, rw (reg.1, second) refl)

pub shares_one : (a b : RegSet) (reg : Reg) → reg_in a reg ≡ true → reg_in b reg ≡ true → shares a b ≡ true
shares_one a b reg one other = grind
    (arith, nat_tests, bit_at_and a.bits b.bits (register_index reg), bit_at-zero (register_index reg))

-- a register of one of two sets
pub joined_is : (a b : ℕ) (reg : Reg)
    → (bit_at (bit_or a b) (register_index reg) == 1) ≡
    ((bit_at a (register_index reg) == 1) || (bit_at b (register_index reg) == 1))
joined_is a b reg = grind (
  arith,
  nat_tests,
  bit_at_or a b (register_index reg),
  bit_at-lt a (register_index reg),
  bit_at-lt b
      (register_index reg),
)

-- a set that shares a register with that register alone has it
pub has_one : (a b : RegSet) (reg : Reg) → ((other : Reg) → reg_in b other ≡ same_reg reg other)
    → shares a b ≡ reg_in a reg
has_one a b reg is = by_test (reg_in a reg) refl
  where
    by_test : (t : Bool) → reg_in a reg ≡ t → shares a b ≡ t
    by_test true e = shares_one a b reg e (is reg ∙ same_reg-refl reg)
    by_test false e = false_from_ne_true (shares a b) (λ some.
        let w = shared a b some in
        let same : reg ≡ w.0 = same_reg-is reg w.0 (sym (is w.0) ∙ w.2) in
        both_ways (reg_in a reg) e (rw same w.1))
