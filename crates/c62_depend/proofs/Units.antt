-- The units of an instruction.
use Rattle.c62_depend.proofs.Common.{◌≡◌, ℕ, ◌+◌, ◌<◌, Bool, List, [], ◌∷◌, ◌++◌, length, get_or, Some, refl, sym, ap}
use Rattle.c62_depend.proofs.Common.{◌∙◌, subst, arith, inl, inr}
use Rattle.c62_depend.proofs.Common.{length-append, ◌&&◌, slice_get, cases_lt, get_or_append_left, get_or_push, Side}
use Rattle.c62_depend.proofs.Common.{FunctionalUnit, Insn, same_side}
use Rattle.c62_depend.proofs.Common.{may_stand, unit_in, Uses, insns_in, side_in, side, stands_on, IsUnitChoice}
use Rattle.c62_depend.proofs.Common.{AreUnitChoices}
use Rattle.c62_insn.specs.declared.unit_set.UnitSet.{UnitSet}
use Rattle.c62_depend.specs.declared.side.UnitChoice.{UnitChoice}
use Rattle.c62_depend.proofs.Latencies.{insn_at}

-- whether an instruction of this side may stand on a unit
abbrev pub stands : Insn → Side → FunctionalUnit → Bool
stands insn side unit = same_side unit.side side && may_stand insn unit

-- the choice of an instruction, from its parts
pub choice_from : (uses : List Uses) (i : ℕ) (u : Uses) (s : Side) (units : UnitSet) → i < length uses
    → u ≡ get_or uses i u
    → s ≡ side_in (insns_in uses) u.insn
    → ((unit : FunctionalUnit) → unit_in units unit ≡ stands u.insn s unit)
    → IsUnitChoice (insns_in uses) i (record { side = s; units = units })
unfolding side stands_on
choice_from uses i u s units within at is units_are =
    let here : slice_get (insns_in uses) i ≡ Some u.insn = insn_at uses i u within at in
    record { side = rw here is; units = λ unit. rw (here, ← is) (units_are unit) }

pub each_more : {X : Type 0} (P : ℕ → X → Type 0) (xs ys : List X) (x : X)
    → ((k : ℕ) (d : X) → k < length xs → P k (get_or xs k d)) → ys ≡ xs ++ x ∷ []
    → P (length xs) x → (k : ℕ) (d : X) → k < length ys → P k (get_or ys k d)
each_more P xs ys x before added one k d within =
    let long : length ys ≡ length xs + 1 = ap length added ∙ length-append xs (x ∷ []) in
    rw added (elim (cases_lt k (length xs)) [
      | inl low ↦ rw (get_or_append_left xs (x ∷ []) d k low) (before k d low)
      | inr high ↦ (let last : k ≡ length xs = omega arith in rw (last, get_or_push xs x d (length xs) refl) one)
    ])

pub choices_more : (block : List Insn) (n : ℕ) (xs ys : List UnitChoice) (x : UnitChoice) → AreUnitChoices block n xs
    → ys ≡ xs ++ x ∷ []
    → IsUnitChoice block n x → AreUnitChoices block (n + 1) ys
choices_more block n xs ys x before added one = record {
  long = ap length added ∙ length-append xs (x ∷ []) ∙ ap (λ (m : ℕ). m + 1) before.long;
  each = each_more (IsUnitChoice block) xs ys x before.each added
      (subst (λ (m : ℕ). IsUnitChoice block m x) (sym before.long) one);
}
