-- Two conditions are opposite where the number of the one is that of the opposite of the other.
use Rattle.c62_depend.proofs.Common.{◌≡◌, ℕ, ◌-◌, Bool, true, false, List, Option, Some, None, refl, ap, ◌∙◌, arith}
use Rattle.c62_depend.proofs.Common.{nat_tests, ◌==◌, ◌&&◌, not}
use Rattle.c62_depend.proofs.Common.{nat_lt, nat_le, and_parts, same_reg, same_reg-is, Insn}
use Rattle.c62_op.specs.declared.register.Cond.{Cond as Condition}
use Rattle.c62_rules.specs.Dependence.{are_opposite, is_written_by, exclusive_by}
use Rattle.c62_pair.specs.Conditions.{test_of, opposite_of}
use Rattle.c62_pair.proofs.RegSets.{index-within}

opposite_numbers : (one other : Condition) → (test_of (Some one) == opposite_of (Some other)) ≡ are_opposite one other
opposite_numbers one other = grind (arith, nat_tests, one.reg.in_range, other.reg.in_range)

-- of two numbers at most one runs where the condition of the one is opposite to that of the other, whose register
-- stands
-- since the one
pub exclusive_is : (block : List Insn) (i j : ℕ) (a b : Option Condition) (s : ℕ)
    → ((cond : Condition) → b ≡ Some cond → is_written_by block i (j - i) cond.reg ≡ nat_lt i s)
    → ((test_of a == opposite_of b) && nat_le s i) ≡ exclusive_by block i j a b
exclusive_is block i j None None s stands = refl
exclusive_is block i j None (Some other) s stands = grind (arith, nat_tests)
exclusive_is block i j (Some one) None s stands = grind (arith, nat_tests, index-within one.reg)
exclusive_is block i j (Some one) (Some other) s stands =
    ap (λ (t : Bool). t && nat_le s i) (opposite_numbers one other) ∙ by_test (are_opposite one other) refl
  where
    by_test : (t : Bool) → are_opposite one other ≡ t
        → (t && nat_le s i) ≡ (t && not (is_written_by block i (j - i) one.reg))
    by_test false e = refl
    by_test true e =
        let same : one.reg ≡ other.reg = same_reg-is one.reg other.reg (and_parts (same_reg one.reg other.reg) _ e).0 in
        rw (same, stands other refl) (grind (arith, nat_tests))
