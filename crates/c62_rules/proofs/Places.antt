-- The places of resources: each has its own, in the order of the rules.
use Rattle.std.proofs.Common.{arith, ◌≡◌, ℕ, ◌<◌, ◌≤◌, true, refl, sym, ap, ◌∙◌, inl, inr}
use Rattle.std.specs.Prelude.{◌==◌}
use Rattle.std.proofs.lemmas.Bool.{cases_eq, eq-eqb, ne_eqb, false_from_ne_true}
use Rattle.std.proofs.lemmas.Bool.Decides.{nat_tests}
use Rattle.c62_op.specs.declared.register.Side.{Side}
use Rattle.c62_op.specs.declared.register.Side.TheVariants.{A, B}
use Rattle.c62_op.specs.declared.register.Reg.{Reg}
use Rattle.c62_op.specs.Register.{first_of, register_index}
use Rattle.c62_op.specs.Takes.{same_reg}
use Rattle.c62_op.proofs.Registers.{same_reg-is, same_reg-refl, same_side-is, same_side-refl, same_unit-is}
use Rattle.c62_op.proofs.Registers.{same_unit-refl}
use Rattle.c62_op.proofs.UnitOrder.{same_index, index_of-below}
use Rattle.c62_rules.specs.declared.resource.CycleRule.{CycleRule}
use Rattle.c62_rules.specs.declared.resource.CycleRule.TheVariants.{P1, P2, P3, P4}
use Rattle.c62_rules.specs.declared.resource.Resource.{Resource}
use Rattle.c62_rules.specs.declared.resource.Resource.TheVariants.{OnUnit, CrossPath, DataPath, ReadsOf}
use Rattle.c62_rules.specs.Resource.{rule_of, capacity_of, same_resource, side_number, place_of, rule_at, capacity_at}
use Rattle.c62_rules.specs.Capacity.{rank_of}

-- ---- registers

first-of : (side : Side) → first_of side ≤ 16
first-of A = omega arith
first-of B = omega arith

pub register-below : (reg : Reg) → register_index reg < 32
register-below reg = omega (arith, first-of reg.side)

by_side : (a b : Reg) (s t : Side) → a.side ≡ s → b.side ≡ t → register_index a ≡ register_index b → same_reg a b ≡ true
by_side a b A A is is_too e =
    (let number : a.number ≡ b.number = omega (arith, rw (is, is_too) at e) in rw (is, is_too, number)
    (grind (arith, nat_tests)))
by_side a b A B is is_too e = absurd (omega (arith, rw (is, is_too) at e, a.in_range))
by_side a b B A is is_too e = absurd (omega (arith, rw (is, is_too) at e, b.in_range))
by_side a b B B is is_too e =
    (let number : a.number ≡ b.number = omega (arith, rw (is, is_too) at e) in rw (is, is_too, number)
    (grind (arith, nat_tests)))

-- ---- each has its own place

side-below : (side : Side) → side_number side < 2
side-below A = omega arith
side-below B = omega arith

same-side : (a b : Side) → side_number a ≡ side_number b → a ≡ b
same-side A A e = refl
same-side A B e = absurd (omega (arith, e))
same-side B A e = absurd (omega (arith, e))
same-side B B e = refl

-- where the places of a kind end
abbrev end_of : Resource → ℕ
end_of (OnUnit _) = 8
end_of (CrossPath _) = 10
end_of (DataPath _) = 12
end_of (ReadsOf _) = 44

pub place-below : (r : Resource) → place_of r < end_of r
place-below (OnUnit unit) = omega (arith, index_of-below unit)
place-below (CrossPath side) = omega (arith, side-below side)
place-below (DataPath side) = omega (arith, side-below side)
place-below (ReadsOf reg) = omega (arith, register-below reg)

pub place-few : (r : Resource) → place_of r < 44
place-few (OnUnit unit) = omega (arith, index_of-below unit)
place-few (CrossPath side) = omega (arith, side-below side)
place-few (DataPath side) = omega (arith, side-below side)
place-few (ReadsOf reg) = omega (arith, register-below reg)

pub same-is : (x r : Resource) → same_resource x r ≡ true → x ≡ r
same-is (OnUnit u) (OnUnit v) h = ap OnUnit (same_unit-is u v h)
same-is (CrossPath u) (CrossPath v) h = ap CrossPath (same_side-is u v h)
same-is (DataPath u) (DataPath v) h = ap DataPath (same_side-is u v h)
same-is (ReadsOf u) (ReadsOf v) h = ap ReadsOf (same_reg-is u v h)
same-is _ _ h = absurd cc

pub same-refl : (r : Resource) → same_resource r r ≡ true
same-refl (OnUnit u) = same_unit-refl u
same-refl (CrossPath u) = same_side-refl u
same-refl (DataPath u) = same_side-refl u
same-refl (ReadsOf u) = same_reg-refl u

pub own-place : (x r : Resource) → place_of x ≡ place_of r → x ≡ r
own-place (OnUnit u) (OnUnit v) e = ap OnUnit (same_index u v (omega (arith, e)))
own-place (CrossPath u) (CrossPath v) e = ap CrossPath (same-side u v (omega (arith, e)))
own-place (DataPath u) (DataPath v) e = ap DataPath (same-side u v (omega (arith, e)))
own-place (ReadsOf u) (ReadsOf v) e = ap ReadsOf
    (same_reg-is u v (by_side u v u.side v.side refl refl (omega (arith, e))))
own-place x r e = absurd (omega (arith, place-below x, place-below r, e))

-- the test of places is the test of resources
pub same-place : (x r : Resource) → (place_of x == place_of r) ≡ same_resource x r
same-place x r = elim (cases_eq (place_of x) (place_of r)) [
  | inl e ↦ eq-eqb (place_of x) (place_of r) e ∙ sym (rw (own-place x r e) (same-refl r))
  | inr ne ↦ ne_eqb (place_of x) (place_of r) ne
      ∙ sym (false_from_ne_true (same_resource x r) (λ h. ne (ap place_of (same-is x r h))))
]

-- ---- what stands at a place

pub rule-here : (r : Resource) → rule_at (place_of r) ≡ rule_of r
rule-here (OnUnit unit) = (let low = index_of-below unit in grind (arith, nat_tests))
rule-here (CrossPath side) = (let low = side-below side in grind (arith, nat_tests))
rule-here (DataPath side) = (let low = side-below side in grind (arith, nat_tests))
rule-here (ReadsOf reg) = grind (arith, nat_tests)

pub capacity-here : (r : Resource) → capacity_at (place_of r) ≡ capacity_of r
capacity-here (OnUnit unit) = (let low = index_of-below unit in grind (arith, nat_tests))
capacity-here (CrossPath side) = (let low = side-below side in grind (arith, nat_tests))
capacity-here (DataPath side) = (let low = side-below side in grind (arith, nat_tests))
capacity-here (ReadsOf reg) = (let low = register-below reg in grind (arith, nat_tests))

-- the rules stand in their order
pub ranks-rise : (k m : ℕ) → k ≤ m → rank_of (rule_at k) ≤ rank_of (rule_at m)
ranks-rise k m le = grind (arith, nat_tests)

-- ---- the order of the rules

pub rank-few : (rule : CycleRule) → rank_of rule < 16
rank-few P1 = omega arith
rank-few P2 = omega arith
rank-few P3 = omega arith
rank-few P4 = omega arith

-- a rule is known by its rank: it has a resource, and the ranks rise with the places
pub same-rank : (a b : CycleRule) → rank_of a ≡ rank_of b → a ≡ b
same-rank P1 P1 e = refl
same-rank P2 P2 e = refl
same-rank P3 P3 e = refl
same-rank P4 P4 e = refl
same-rank _ _ e = absurd (omega (arith, e))
