-- The steps of a critical path.
use Rattle.std.proofs.Common.{arith, ◌≡◌, ◌∙◌, ℕ, zero, suc, ◌+◌, ◌-◌, ◌<◌, ◌≤◌, List, [], ◌∷◌, ◌++◌, length, get_or}
use Rattle.std.proofs.Common.{Some, refl, sym, ap, subst, inl, inr}
use Rattle.std.specs.Prelude.{slice_get}
use Rattle.std.proofs.lemmas.Bool.{cases_lt}
use Rattle.std.proofs.lemmas.Grind.{common_steps}
use Rattle.std.proofs.lemmas.Option.{same_Some, slice_get-get_or, slice_get_within}
use Rattle.c62_insn.specs.declared.insn.Insn.{Insn}
use Rattle.c62_read.specs.Block.{Serial}
use Rattle.c62_depend.specs.Plan.{IsPlan}
use Rattle.c62_bound.specs.Path.{IsTight, GoesOnTight, IsCriticalPath}
use Rattle.c62_show.specs.declared.limits.Step.{Step}
use Rattle.c62_show.specs.Limits.{IsStep, AreSteps}

-- what depends on a number stands behind it
pub tight_within : (block : List Insn) (i j : ℕ) → IsPlan block → IsTight block i j → (i < j) × (j < length block)
tight_within block i j plan tight =
    let short = plan.short i j tight.cycles tight.depends in
    (short.before, short.within)

tight_on : (block : List Insn) (i : ℕ) (path : List ℕ) (k a b : ℕ) → GoesOnTight block i path
    → slice_get (i ∷ path) k ≡ Some a → slice_get (i ∷ path) (suc k) ≡ Some b
    → IsTight block a b
tight_on block i [] k a b tight at next = absurd
    (let inside = slice_get_within (i ∷ []) (suc k) b next in omega (arith, inside))
tight_on block i (j ∷ path) zero a b tight at next =
    subst (λ n. IsTight block n b) (same_Some i a at) (subst (λ n. IsTight block i n) (same_Some j b next) tight.0)
tight_on block i (j ∷ path) (suc k) a b tight at next = tight_on block j path k a b tight.1 at next

-- two numbers of a critical path, one behind the other
pub tight_at : (block : List Insn) (path : List ℕ) (k : ℕ) → IsCriticalPath block path → 1 ≤ k → k < length path
    → IsTight block (get_or path (k - 1) 0) (get_or path k 0)
tight_at block [] k critical some inside = absurd (omega (arith, inside))
tight_at block (i ∷ path) zero critical some inside = absurd (omega (arith, some))
tight_at block (i ∷ path) (suc k) critical some inside =
    let before : k ≡ suc k - 1 = omega arith in
    subst (λ n. IsTight block (get_or (i ∷ path) n 0) (get_or (i ∷ path) (suc k) 0)) before
    (tight_on block i path k (get_or (i ∷ path) k 0) (get_or (i ∷ path) (suc k) 0) critical.1
    (slice_get-get_or (i ∷ path) k 0 (omega (arith, inside)))
    (slice_get-get_or (i ∷ path) (suc k) 0 inside))

push_before : {X : Type 0} (xs : List X) (x : X) (j : ℕ) → j < length xs → slice_get (xs ++ x ∷ []) j ≡ slice_get xs j
push_before [] x j inside = absurd (omega (arith, inside))
push_before (y ∷ xs) x zero inside = refl
push_before (y ∷ xs) x (suc j) inside = push_before xs x j (omega (arith, inside))

push_last : {X : Type 0} (xs : List X) (x : X) → slice_get (xs ++ x ∷ []) (length xs) ≡ Some x
push_last [] x = refl
push_last (y ∷ xs) x = push_last xs x

-- the steps that lead to the first numbers of a path
pub record AreStepsTo (block : Serial) (path : List ℕ) (steps : List Step) (count : ℕ) : Type 0 where
  pub long : length steps + 1 ≡ count
  pub inside : 1 < count → count ≤ length path
  pub each : (k i j : ℕ) (step : Step) → slice_get path k ≡ Some i → slice_get path (k + 1) ≡ Some j
      → slice_get steps k ≡ Some step → IsStep block i j step

pub none_yet : (block : Serial) (path : List ℕ) → AreStepsTo block path [] 1
none_yet block path = record
    { long = refl; inside = λ some. absurd (omega (arith, some)); each = λ k i j step at next there. absurd cc }

pub one_more : (block : Serial) (path : List ℕ) (steps more : List Step) (count a b : ℕ) (step : Step)
    → more ≡ steps ++ step ∷ []
    → AreStepsTo block path steps count → slice_get path (count - 1) ≡ Some a → slice_get path count ≡ Some b
    → IsStep block a b step → count < length path
    → AreStepsTo block path more (count + 1)
one_more block path steps more count a b step is are from to one within =
    let long = are.long in
    let longer : length more ≡ length steps + 1 = grind (arith, common_steps, is) in
    record {
      long = omega (arith, long, longer);
      inside = λ _. omega (arith, within);
      each = λ k i j other at next there. (
          elim (cases_lt k (length steps)) [
            | inl before ↦ are.each k i j other at next (sym (push_before steps step k before)
                ∙ (sym (ap (λ xs. slice_get xs k) is) ∙ there))
            | inr after ↦
                (let inside : k < length more = slice_get_within more k other there in
                let here : k ≡ length steps = omega (arith, after, inside, longer) in
                let last : slice_get more k ≡ Some step = ap (λ xs. slice_get xs k) is
                ∙ (ap (λ n. slice_get (steps ++ step ∷ []) n) here ∙ push_last steps step) in
                let same : step ≡ other = same_Some step other (sym last ∙ there) in
                let first : count - 1 ≡ k = omega (arith, long, here) in
                let second : count ≡ k + 1 = omega (arith, long, here) in
                let is_i : a ≡ i = same_Some a i (sym from ∙ (ap (slice_get path) first ∙ at)) in
                let is_j : b ≡ j = same_Some b j (sym to ∙ (ap (slice_get path) second ∙ next)) in
                subst (λ s. IsStep block i j s) same
                (subst (λ n. IsStep block n j step) is_i (subst (λ n. IsStep block a n step) is_j one)))
          ]);
    }

pub all_steps : (block : Serial) (path : List ℕ) (steps : List Step) (count : ℕ) → length path ≤ count
    → AreStepsTo block path steps count → AreSteps block path steps
all_steps block path steps count end are = record {
  count = (let long = are.long in elim (cases_lt 1 count) [
    | inl some ↦ (let inside = are.inside some in omega (arith, long, end, inside))
    | inr none ↦ omega (arith, long, end, none)
  ]);
  each = are.each;
}
