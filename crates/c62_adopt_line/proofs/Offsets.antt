-- Offsets in bytes.
use Rattle.std.proofs.Common.{◌≡◌, ◌⊎◌, arith, refl, sym, ap, subst, ℕ, ◌*◌, ◌/◌, ◌%◌, ℤ, pos, negsuc, Bool, true}
use Rattle.std.proofs.Common.{false, cond, eqb, inl, inr, ◌∙◌}
use Rattle.std.specs.Prelude.{◌↔◌}
use Rattle.std.proofs.lemmas.Bool.Decides.{nat_tests}
use Rattle.c62_line.specs.Mnemonic.{operation_named}
use Rattle.c62_adopt_line.specs.Laws.{AccessesMove, CountsBytes, IsSize}
use Rattle.c62_adopt_line.specs.Plain.{accesses_in}

pub accesses_move : AccessesMove
unfolding operation_named
accesses_move = record { words = (refl, refl); halves = (refl, refl, refl); bytes = (refl, refl, refl) }

abbrev number_of : ℤ → ℕ
number_of (pos n) = n
number_of (negsuc n) = 0

-- where the size goes into it, it is so many times the size
whole : (even : Bool) (n rest count : ℕ) → cond even (pos rest) (negsuc 0) ≡ pos count → (even ≡ true) × (rest ≡ count)
whole true n rest count e = (refl, ap number_of e)
whole false n rest count e = absurd cc

by_one : (n count : ℕ) → (accesses_in 1 (pos n) ≡ pos count) ↔ (pos n ≡ pos (1 * count))
by_one n count = (
  λ e. let parts = whole (eqb (n % 1) 0) n (n / 1) count e in ap pos (omega (arith, parts.1)),
  λ e. let same : n ≡ 1 * count = ap number_of e in
      let even : eqb (n % 1) 0 ≡ true = grind (arith, nat_tests) in
      let count_is : n / 1 ≡ count = omega (arith, same) in rw (even, count_is) refl,
)

by_two : (n count : ℕ) → (accesses_in 2 (pos n) ≡ pos count) ↔ (pos n ≡ pos (2 * count))
by_two n count = (
  λ e. let parts = whole (eqb (n % 2) 0) n (n / 2) count e in
      let even = parts.0 in
      let rest : n % 2 ≡ 0 = grind (arith, nat_tests) in
      ap pos (omega (arith, parts.1, rest)),
  λ e. let same : n ≡ 2 * count = ap number_of e in
      let rest : n % 2 ≡ 0 = omega (arith, same) in
      let even : eqb (n % 2) 0 ≡ true = grind (arith, nat_tests) in
      let count_is : n / 2 ≡ count = omega (arith, same) in rw (even, count_is) refl,
)

by_four : (n count : ℕ) → (accesses_in 4 (pos n) ≡ pos count) ↔ (pos n ≡ pos (4 * count))
by_four n count = (
  λ e. let parts = whole (eqb (n % 4) 0) n (n / 4) count e in
      let even = parts.0 in
      let rest : n % 4 ≡ 0 = grind (arith, nat_tests) in
      ap pos (omega (arith, parts.1, rest)),
  λ e. let same : n ≡ 4 * count = ap number_of e in
      let rest : n % 4 ≡ 0 = omega (arith, same) in
      let even : eqb (n % 4) 0 ≡ true = grind (arith, nat_tests) in
      let count_is : n / 4 ≡ count = omega (arith, same) in rw (even, count_is) refl,
)

pub counts_bytes : (size count : ℕ) (offset : ℤ) → CountsBytes size count offset
counts_bytes size count (negsuc n) known = (λ e. absurd cc, λ e. absurd cc)
counts_bytes size count (pos n) (inl is) = subst
    (λ (s : ℕ). (accesses_in s (pos n) ≡ pos count) ↔ (pos n ≡ pos (s * count))) (sym is) (by_one n count)
counts_bytes size count (pos n) (inr (inl is)) = subst
    (λ (s : ℕ). (accesses_in s (pos n) ≡ pos count) ↔ (pos n ≡ pos (s * count))) (sym is) (by_two n count)
counts_bytes size count (pos n) (inr (inr is)) = subst
    (λ (s : ℕ). (accesses_in s (pos n) ≡ pos count) ↔ (pos n ≡ pos (s * count))) (sym is) (by_four n count)
