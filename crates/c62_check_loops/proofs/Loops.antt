-- What is told of loops, one block after the other.
use Rattle.std.proofs.Common.{◌≡◌, ℕ, zero, suc, ◌+◌, ◌<◌, ◌++◌, List, [], ◌∷◌, length, Option, Some, None, refl, sym}
use Rattle.std.proofs.Common.{ap, subst, arith, ◌∙◌, ◌⊎◌, inl, inr}
use Rattle.std.specs.Prelude.{slice_get}
use Rattle.std.proofs.lemmas.List.{length-append}
use Rattle.std.proofs.lemmas.Option.{none-some, same_Some}
use Rattle.c62_read.specs.Block.{Serial}
use Rattle.c62_flight.specs.Text.{Text}
use Rattle.c62_loop_match.specs.declared.promise.Promise.{Promise}
use Rattle.c62_loop_match.specs.Promise.{promises}
use Rattle.c62_check_loop.specs.declared.verdict.LoopVerdict.{LoopVerdict}
use Rattle.c62_check_loop.specs.Told.{IsTold}
use Rattle.c62_check_loops.specs.Covered.{loop_in}
use Rattle.c62_check_loops.specs.Verdicts.{AreLoopVerdicts, IsLoopTold}

-- there is one at each number below their count
pub there_at : {X : Type 0} (xs : List X) (k : ℕ) → k < length xs → (x : X) × (slice_get xs k ≡ Some x)
there_at [] k within = absurd (omega (arith, within))
there_at (x ∷ xs) zero within = (x, refl)
there_at (x ∷ xs) (suc k) within = there_at xs k (omega (arith, within))

-- what stands at a number among those with one more
pub pushed_at : {X : Type 0} (xs : List X) (x y : X) (k : ℕ) → slice_get (xs ++ x ∷ []) k ≡ Some y
    → (slice_get xs k ≡ Some y) ⊎ ((k ≡ length xs) × (x ≡ y))
pushed_at [] x y zero at = inr (refl, same_Some x y at)
pushed_at [] x y (suc k) at = absurd (none-some y at)
pushed_at (z ∷ xs) x y zero at = inl at
pushed_at (z ∷ xs) x y (suc k) at = elim (pushed_at xs x y k at) [
  | inl there ↦ inl there
  | inr last ↦ inr (ap suc last.0, last.1)
]

-- what holds of each, and of one more
pub each_pushed : {X : Type 0} (P : ℕ → X → Type 0) (count : ℕ) (xs : List X) (x : X) → length xs ≡ count
    → ((k : ℕ) (y : X) → slice_get xs k ≡ Some y → P k y) → P count x
    → (k : ℕ) (y : X) → slice_get (xs ++ x ∷ []) k ≡ Some y → P k y
each_pushed {X} P count xs x counted each new k y at = elim (pushed_at xs x y k at) [
  | inl before ↦ each k y before
  | inr last ↦ subst (λ (n : ℕ). P n y) (sym (last.0 ∙ counted)) (subst (λ (z : X). P count z) last.1 new)
]

module _ (promise : Promise) (blocks : List Serial) (packets : Text) where
  pub none_told : AreLoopVerdicts promise blocks packets 0 []
  none_told = record { counted = refl; each = λ number verdict at. absurd (none-some verdict at) }

  pub loop_next : (count : ℕ) (verdicts : List (Option LoopVerdict)) (verdict : Option LoopVerdict)
      → AreLoopVerdicts promise blocks packets count verdicts
      → IsLoopTold promise blocks packets count verdict
      → AreLoopVerdicts promise blocks packets (count + 1) (verdicts ++ verdict ∷ [])
  loop_next count verdicts verdict are says =
      let counted = are.counted in
      record {
        counted = (let many = length-append verdicts (verdict ∷ []) in omega (arith, many, counted));
        each = each_pushed (λ number told. IsLoopTold promise blocks packets number told) count verdicts verdict
            counted are.each says;
      }

  as_loop : (number : ℕ) (verdict : Option LoopVerdict) → IsTold (promises promise) blocks number packets verdict
      → IsLoopTold promise blocks packets number verdict
  as_loop number None is = tt
  as_loop number (Some verdict) is = is

  pub told_next : (count : ℕ) (verdicts : List (Option LoopVerdict)) (verdict : Option LoopVerdict)
      → AreLoopVerdicts promise blocks packets count verdicts
      → IsTold (promises promise) blocks count packets verdict
      → AreLoopVerdicts promise blocks packets (count + 1) (verdicts ++ verdict ∷ [])
  told_next count verdicts verdict are says = loop_next count verdicts verdict are (as_loop count verdict says)

  -- what is told of a loop among them
  pub loop_told : (count : ℕ) (verdicts : List (Option LoopVerdict)) (number : ℕ) (verdict : LoopVerdict)
      → AreLoopVerdicts promise blocks packets count verdicts → number < count
      → Some verdict ≡ loop_in (slice_get verdicts number)
      → IsTold (promises promise) blocks number packets (Some verdict)
  loop_told count verdicts number verdict are within is =
      let counted = are.counted in
      let there = there_at verdicts number (omega (arith, within, counted)) in
      subst (λ (v : Option LoopVerdict). IsLoopTold promise blocks packets number v)
      (sym (is ∙ ap loop_in there.1)) (are.each number there.0 there.1)
