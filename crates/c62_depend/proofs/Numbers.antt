-- The numbers that the bounds are counted as.
use Rattle.c62_depend.proofs.Common.{◌≡◌, ℕ, ◌+◌, ◌<◌, ◌≤◌, max, ℤ, pos, ◌-ℤ◌, Bool, true, false, Option, Some, refl}
use Rattle.c62_depend.proofs.Common.{◌∙◌, arith, ◌&&◌, ◌||◌}
use Rattle.c62_depend.proofs.Common.{not, ints, clamps, delay_of, is_load, is_store, is_branch, op_of, Uses, shares}
use Rattle.c62_depend.proofs.Common.{as_bound, number_if}
use Rattle.c62_depend.proofs.Common.{number_awaited, number_spared, number_after_result, number_after_at_once}
use Rattle.c62_depend.proofs.Common.{number_overwritten}
use Rattle.c62_depend.proofs.Common.{number_of_registers, number_of_order, greater, by_order, latency_of, nat_tests}
use Rattle.c62_depend.proofs.Bounds.{bound_if, told_awaited, told_spared, told_after_result, told_after_at_once}
use Rattle.c62_depend.proofs.Bounds.{told_overwritten, told, told_is}

-- the bound of a number above 0
pub some_number : (n : ℕ) → 0 < n → as_bound n ≡ Some (pos n -ℤ pos 6)
some_number n some = grind (arith, nat_tests)

-- the greater number is that of the greater bound
as_bound-max : (m n : ℕ) → as_bound (max m n) ≡ greater (as_bound m) (as_bound n)
as_bound-max m n = grind (arith, nat_tests, ints, clamps)

both : (m n : ℕ) (x y : Option ℤ) → as_bound m ≡ x → as_bound n ≡ y → as_bound (max m n) ≡ greater x y
both m n x y first second = as_bound-max m n ∙ rw (first, second) refl

module _ (p q : Uses) where
  awaited : as_bound (number_awaited p q) ≡ told_awaited p q
  awaited = grind (arith, nat_tests, ints, clamps)

  spared : as_bound (number_spared p q) ≡ told_spared p q
  spared = let few : q.delay ≤ 5 = q.small in grind (arith, nat_tests, ints, clamps)

  after_result : as_bound (number_after_result p q) ≡ told_after_result p q
  after_result = let few : q.delay ≤ 5 = q.small in grind (arith, nat_tests, ints, clamps)

  after_at_once : as_bound (number_after_at_once p q) ≡ told_after_at_once p q
  after_at_once = let few : q.delay ≤ 5 = q.small in grind (arith, nat_tests, ints, clamps)

  overwritten : (exclusive : Bool) → as_bound (number_overwritten exclusive p q) ≡ told_overwritten exclusive p q
  overwritten true = refl
  overwritten false = both _ _ _ _ after_result after_at_once

  registers : (exclusive : Bool) → as_bound (number_of_registers exclusive p q) ≡ told exclusive p q
  registers exclusive = both _ _ _ _ awaited (both _ _ _ _ spared (overwritten exclusive))

  pub order_is : (disjoint : Bool) → as_bound (number_of_order disjoint p.insn q.insn) ≡ by_order disjoint p.insn q.insn
  order_is disjoint =
      of_three (not disjoint && (is_store (op_of p.insn) && (is_load (op_of q.insn) || is_store (op_of q.insn))))
      (not disjoint && (is_load (op_of p.insn) && is_store (op_of q.insn))) (is_branch (op_of q.insn))
      (delay_of (op_of p.insn))
    where
      of_three : (access store branch : Bool) (delay : ℕ)
          → as_bound (max (number_if access 7) (max (number_if store 6) (number_if branch (delay + 1))))
          ≡ greater (bound_if access (pos 1)) (greater (bound_if store (pos 0)) (bound_if branch (pos delay -ℤ pos 5)))
      of_three access store branch delay = grind (arith, nat_tests, ints, clamps)

  -- the greatest number of all cases is that of the latency
  pub all_is : (exclusive disjoint : Bool)
      → as_bound (max (number_of_registers exclusive p q) (number_of_order disjoint p.insn q.insn)) ≡ latency_of
      exclusive disjoint p.insn q.insn
  all_is exclusive disjoint = rw (← told_is p q exclusive) (both _ _ _ _ (registers exclusive) (order_is disjoint))
