-- Lists, item by item.
use Rattle.std.proofs.Common.{arith, ◌≡◌, ℕ, zero, suc, ◌+◌, ◌<◌, ◌≤◌, List, [], ◌∷◌, ◌++◌, length, get_or, drop}
use Rattle.std.proofs.Common.{Option, Some, None, refl, sym, ap, ◌∙◌, subst, inl, inr}
use Rattle.std.specs.Prelude.{ℤ, pos, fold}
use Rattle.std.proofs.Math.Seq.{get_or-append_seam}
use Rattle.std.proofs.lemmas.Bool.{cases_lt}
use Rattle.std.proofs.lemmas.List.{get_or_append_left, get_or_past}
use Rattle.c62_insn.specs.declared.insn.Insn.{Insn}
use Rattle.c62_raised.specs.Chain.{IsLongest, AreLongest, lead_in}
use Rattle.c62_raised.specs.Raised.{AreAtOnce}
use Rattle.c62_raised.specs.Steps.{AreLongestBelow, IsSmall, AreSmall}
use Rattle.c62_raised.proofs.Chains.{chain_after, small_lead}
use Rattle.c62_read.specs.declared.limits.TheConstants.{MOST_INSTRUCTIONS}

fold_step : {A B : Type 0} (f : B → A → B) (a : B) (xs : List A) (k : ℕ) (d : A) → k < length xs
    → fold f a (drop k xs) ≡ fold f (f a (get_or xs k d)) (drop (suc k) xs)
fold_step f a [] k d low = absurd (omega (arith, low))
fold_step f a (x ∷ xs) zero d low = refl
fold_step f a (x ∷ xs) (suc k) d low = fold_step f a xs k d (omega (arith, low))

pub fold_next : {A B : Type 0} (f : B → A → B) (a : B) (xs : List A) (k : ℕ) (d : A) → k < length xs
    → fold f a (drop k xs) ≡ fold f (f a (get_or xs k d)) (drop (k + 1) xs)
fold_next f a xs k d low =
    let next : suc k ≡ k + 1 = omega arith in
    fold_step f a xs k d low ∙ ap (λ (n : ℕ). fold f (f a (get_or xs k d)) (drop n xs)) next

pub fold_end : {A B : Type 0} (f : B → A → B) (a : B) (xs : List A) (k : ℕ) → length xs ≤ k → fold f a (drop k xs) ≡ a
fold_end f a [] zero high = refl
fold_end f a [] (suc k) high = refl
fold_end f a (x ∷ xs) zero high = absurd (omega (arith, high))
fold_end f a (x ∷ xs) (suc k) high = fold_end f a xs k (omega (arith, high))

-- ---- leads

-- what is pushed stands at its place, and the others where they stood
pub pushed_at : (old new : List (Option ℤ)) (x : Option ℤ) (n : ℕ) → new ≡ old ++ x ∷ [] → length old ≡ n
    → lead_in new n ≡ x
pushed_at old new x n e long = ap (λ (xs : List (Option ℤ)). lead_in xs n) e ∙ ap (lead_in (old ++ x ∷ [])) (sym long)
    ∙ get_or-append_seam old x [] None

pub pushed_old : (old new : List (Option ℤ)) (x : Option ℤ) (k n : ℕ) → new ≡ old ++ x ∷ [] → length old ≡ n → k < n
    → lead_in new k ≡ lead_in old k
pushed_old old new x k n e long low = ap (λ (xs : List (Option ℤ)). lead_in xs k) e
    ∙ get_or_append_left old (x ∷ []) None k (omega (arith, long, low))

pub none_past : (leads : List (Option ℤ)) (j : ℕ) → length leads ≤ j → lead_in leads j ≡ None
none_past leads j high = get_or_past leads j None high

pub all_longest : (block : List Insn) (i n : ℕ) (leads : List (Option ℤ)) → length leads ≡ n → length block ≤ n
    → AreLongestBelow block i n leads
    → AreLongest block i (lead_in leads)
all_longest block i n leads long all below j = elim (cases_lt j n) [
  | inl low ↦ below j low
  | inr high ↦
      subst (IsLongest block i j) (sym (none_past leads j (omega (arith, long, high))))
      (λ cycles chain. (let after = (chain_after block i j cycles chain).1 in omega (arith, after, high, all)))
]

pub at_once_all : (block : List Insn) (n : ℕ) (leads : List (Option ℤ)) → length leads ≡ n → n ≡ length block
    → ((k : ℕ) → k < n → lead_in leads k ≡ Some (pos 0))
    → AreAtOnce block (lead_in leads)
at_once_all block n leads long all each = record {
  each = λ j low. each j (omega (arith, low, all));
  others = λ j high. none_past leads j (omega (arith, long, all, high));
}

pub small_longest : (block : List Insn) (i : ℕ) (leads : List (Option ℤ)) → length block ≤ MOST_INSTRUCTIONS
    → AreLongest block i (lead_in leads) → AreSmall leads
small_longest block i leads few longest j = small_lead block i j (lead_in leads j) few (longest j)

pub small_at_once : (block : List Insn) (leads : List (Option ℤ)) → AreAtOnce block (lead_in leads) → AreSmall leads
small_at_once block leads at_once j = elim (cases_lt j (length block)) [
  | inl low ↦ subst IsSmall (sym (at_once.each j low)) (omega arith, omega arith)
  | inr high ↦ subst IsSmall (sym (at_once.others j (omega (arith, high)))) tt
]
