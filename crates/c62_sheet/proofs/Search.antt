-- There is one least spot.
use Rattle.c62_sheet.proofs.Common.{L, A, arith, ◌≡◌, ℕ, List, ap, ◌∙◌}
use Rattle.c62_sheet.proofs.Common.{FunctionalUnit, Insn, index_of, Spot, Spots}
use Rattle.c62_sheet.proofs.Common.{same_index, IsLeast}

-- a unit, where one is asked for that is not used
abbrev pub first_unit : FunctionalUnit
first_unit = record { letter = L; side = A }

abbrev spot_on : ℕ → FunctionalUnit → Spot
spot_on cycle unit = record { cycle = cycle; unit = unit }

same_spot : (s t : Spot) → s.cycle ≡ t.cycle → index_of s.unit ≡ index_of t.unit → s ≡ t
same_spot s t e places = ap (λ (c : ℕ). spot_on c s.unit) e ∙ ap (spot_on t.cycle) (same_index s.unit t.unit places)

-- there is one least spot
pub least_unique : (block : List Insn) (set : Spots) (i : ℕ) (s t : Spot) → IsLeast block set i s
    → IsLeast block set i t → s ≡ t
least_unique block set i s t a b =
    same_spot s t (grind (arith, a.first t b.lawful, b.first s a.lawful))
    (grind (arith, a.first t b.lawful, b.first s a.lawful))
