-- The order of the eight units.
use Rattle.std.proofs.Common.{arith, ◌≡◌, ℕ, zero, suc, ◌<◌, get_or, sym, ap, refl, ◌∙◌}
use Rattle.c62_op.specs.declared.register.Letter.{Letter}
use Rattle.c62_op.specs.declared.register.Letter.TheVariants.{L, S, M, D}
use Rattle.c62_op.specs.declared.register.Side.{Side}
use Rattle.c62_op.specs.declared.register.Side.TheVariants.{A, B}
use Rattle.c62_op.specs.declared.register.Unit.{Unit as FunctionalUnit}
use Rattle.c62_op.specs.Units.{all_units, index_on, index_of}

unit_of_parts : Letter → Side → FunctionalUnit
unit_of_parts letter side = record { letter = letter; side = side }

unit_at : ℕ → FunctionalUnit → FunctionalUnit
unit_at k d = get_or all_units k d

unit_at-index_on : (letter : Letter) (side : Side) (d : FunctionalUnit)
    → unit_at (index_on letter side) d ≡ unit_of_parts letter side
unfolding unit_at unit_of_parts
unit_at-index_on L A d = refl
unit_at-index_on S A d = refl
unit_at-index_on M A d = refl
unit_at-index_on D A d = refl
unit_at-index_on L B d = refl
unit_at-index_on S B d = refl
unit_at-index_on M B d = refl
unit_at-index_on D B d = refl

unit_at-index_of : (unit d : FunctionalUnit) → unit_at (index_of unit) d ≡ unit
unfolding unit_of_parts
unit_at-index_of unit d = unit_at-index_on unit.letter unit.side d

-- units of one index are one
pub same_index : (u v : FunctionalUnit) → index_of u ≡ index_of v → u ≡ v
same_index u v e = sym (unit_at-index_of u u) ∙ ap (λ (k : ℕ). unit_at k u) e ∙ unit_at-index_of v u

index_on-below : (letter : Letter) (side : Side) → index_on letter side < 8
index_on-below L A = omega arith
index_on-below S A = omega arith
index_on-below M A = omega arith
index_on-below D A = omega arith
index_on-below L B = omega arith
index_on-below S B = omega arith
index_on-below M B = omega arith
index_on-below D B = omega arith

pub index_of-below : (unit : FunctionalUnit) → index_of unit < 8
index_of-below unit = index_on-below unit.letter unit.side

-- the units stand in their list by their indices
pub index_of-listed : (k : ℕ) (d : FunctionalUnit) → k < 8 → index_of (get_or all_units k d) ≡ k
index_of-listed zero d lt = refl
index_of-listed (suc zero) d lt = refl
index_of-listed (suc (suc zero)) d lt = refl
index_of-listed (suc (suc (suc zero))) d lt = refl
index_of-listed (suc (suc (suc (suc zero)))) d lt = refl
index_of-listed (suc (suc (suc (suc (suc zero))))) d lt = refl
index_of-listed (suc (suc (suc (suc (suc (suc zero)))))) d lt = refl
index_of-listed (suc (suc (suc (suc (suc (suc (suc zero))))))) d lt = refl
index_of-listed (suc (suc (suc (suc (suc (suc (suc (suc k)))))))) d lt = absurd (omega (arith, lt))
