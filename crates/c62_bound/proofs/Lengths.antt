-- The greater of the critical path and the greatest need.
use Rattle.std.proofs.Common.{arith, ◌≡◌, ℕ, ◌<◌, ◌≤◌, List, [], length, max, refl, ◌∙◌, inl, inr}
use Rattle.std.proofs.lemmas.Bool.{cases_lt}
use Rattle.c62_insn.specs.declared.insn.Insn.{Insn}
use Rattle.c62_bound.specs.declared.need.Need.{Need}
use Rattle.c62_bound.specs.Bound.{cycles_of, ComesFirst, IsGreatestNeed}
use Rattle.c62_bound.specs.Path.{IsPathLength}
use Rattle.c62_bound.specs.Length.{IsNeeded, IsLeastLength}

pub no_fewer : (a b : Need) → ComesFirst a b → cycles_of b ≤ cycles_of a
no_fewer a b p = grind (arith, p)

-- with an instruction
pub least_with : (block : List Insn) (path : ℕ) (need : Need) → IsPathLength block path → IsGreatestNeed block need
    → IsLeastLength block (max path (cycles_of need))
least_with block path need is_path is_need = record
    { covers = λ fewer needed. below fewer needed; attained = λ some. reached some }
  where
    below : (fewer : ℕ) → IsNeeded block fewer → fewer ≤ max path (cycles_of need)
    below fewer needed = elim needed [
      | inl w ↦ (let low = is_path.covers w.0 w.1 in omega (arith, low, w.2))
      | inr w ↦ (let low = no_fewer need w.0 (is_need.first w.0 w.1) in omega (arith, low, w.2))
    ]

    reached : 0 < max path (cycles_of need) → IsNeeded block (max path (cycles_of need))
    reached some = elim (cases_lt path (cycles_of need)) [
      | inl lt ↦ (let is : cycles_of need ≡ max path (cycles_of need) = omega (arith, lt) in inr (need, is_need.is, is))
      | inr ge ↦
          (let is : path ≡ max path (cycles_of need) = omega (arith, ge) in
          let w = is_path.attained (omega (arith, is, some)) in
          inl (w.0, w.1, w.2 ∙ is))
    ]

-- and without one
pub least_without : (block : List Insn) (path : ℕ) → block ≡ [] → IsPathLength block path → IsLeastLength block path
least_without block path none is_path = record
    { covers = λ fewer needed. below fewer needed; attained = λ some. inl (is_path.attained some) }
  where
    below : (fewer : ℕ) → IsNeeded block fewer → fewer ≤ path
    below fewer needed = elim needed [
      | inl w ↦ (let low = is_path.covers w.0 w.1 in omega (arith, low, w.2))
      | inr w ↦ (let within = w.1.within in let empty : length block ≡ 0 = rw none refl in absurd
          (omega (arith, within, empty)))
    ]
