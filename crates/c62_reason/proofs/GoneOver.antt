-- Writes gone over one by one.
use Rattle.std.proofs.Common.{arith, ◌≡◌, ℕ, ◌<◌, ◌≤◌, ◌+◌, List, length, get_or, sym, ap, subst, ◌∙◌, inl, inr}
use Rattle.std.specs.Prelude.{All, Contains}
use Rattle.std.proofs.lemmas.Bool.{cases_lt}
use Rattle.std.proofs.lemmas.Grind.{common_steps}
use Rattle.c62_op.specs.declared.register.Reg.{Reg}

-- none of the first writes is such
abbrev pub AreNot : (Reg × ℕ → Type 0) → List (Reg × ℕ) → ℕ → Type 0
AreNot Is writes count = (k : ℕ) (d : Reg × ℕ) → k < count → Is (get_or writes k d) → ⊥

module _ (Is : Reg × ℕ → Type 0) (writes : List (Reg × ℕ)) (count : ℕ) where
  pub not_next : (write : Reg × ℕ) → AreNot Is writes count → count < length writes → write ≡ get_or writes count write
      → (Is write → ⊥) → AreNot Is writes (count + 1)
  not_next write are within at never k d low is = elim (cases_lt k count) [
    | inl before ↦ are k d before is
    | inr after ↦
        (let here : k ≡ count = omega (arith, low, after) in
        let same : get_or writes count d ≡ get_or writes count write = default_is d in
        never (subst Is (ap (λ (n : ℕ). get_or writes n d) here ∙ (same ∙ sym at)) is))
  ]
    where
      default_is : (d : Reg × ℕ) → get_or writes count d ≡ get_or writes count write
      default_is d = grind (arith, common_steps, within)

  pub none_is : AreNot Is writes count → length writes ≤ count → All (λ write. Is write → ⊥) writes
  none_is are end k d inside = are k d (omega (arith, inside, end))

  pub is_there : (write : Reg × ℕ) → count < length writes → write ≡ get_or writes count write → Contains writes write
  is_there write within at = (count, within, sym at)
