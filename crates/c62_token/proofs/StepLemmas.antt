-- Bytes that are tested step by step, where the last step may overlap the one before.
use Rattle.c62_token.proofs.Common.{◌≡◌, ◌≤◌, ℕ, ◌+◌, ◌-◌, zero, suc, Bool, ◌&&◌, ◌||◌, List, [], ◌∷◌, ◌++◌, take, drop}
use Rattle.c62_token.proofs.Common.{refl, ap, ◌∙◌}
use Rattle.c62_token.proofs.Common.{arith, nat_tests, list_all, list_any, list_any-append, list_all-append}
use Rattle.std.proofs.Common.{take-add}

module _ (test : ℕ → Bool) where
  -- the first m bytes are the first n and those between
  parts : (n m : ℕ) (bytes : List ℕ) → n ≤ m → take m bytes ≡ take n bytes ++ take (m - n) (drop n bytes)
  parts n m bytes less = let whole : m ≡ n + (m - n) = omega arith in ap (λ (k : ℕ). take k bytes) whole
      ∙ take-add n (m - n) bytes

  pub all_more : (n m : ℕ) (bytes : List ℕ) → n ≤ m
      → list_all test (take m bytes) ≡ (list_all test (take n bytes) && list_all test (take (m - n) (drop n bytes)))
  all_more n m bytes less = ap (list_all test) (parts n m bytes less)
      ∙ list_all-append test (take n bytes) (take (m - n) (drop n bytes))

  pub any_more : (n m : ℕ) (bytes : List ℕ) → n ≤ m
      → list_any test (take m bytes) ≡ (list_any test (take n bytes) || list_any test (take (m - n) (drop n bytes)))
  any_more n m bytes less = ap (list_any test) (parts n m bytes less)
      ∙ list_any-append test (take n bytes) (take (m - n) (drop n bytes))

  pub all_over : (n m : ℕ) (bytes : List ℕ) → n ≤ m
      → list_all test bytes ≡ (list_all test (take m bytes) && list_all test (drop n bytes))
  all_over zero zero bytes less = refl
  all_over (suc n) zero bytes less = absurd (omega arith)
  all_over zero (suc m) [] less = refl
  all_over (suc n) (suc m) [] less = refl
  all_over zero (suc m) (b ∷ bytes) less = grind (arith, nat_tests, all_over zero m bytes)
  all_over (suc n) (suc m) (b ∷ bytes) less = grind (arith, nat_tests, all_over n m bytes)

  pub any_over : (n m : ℕ) (bytes : List ℕ) → n ≤ m
      → list_any test bytes ≡ (list_any test (take m bytes) || list_any test (drop n bytes))
  any_over zero zero bytes less = refl
  any_over (suc n) zero bytes less = absurd (omega arith)
  any_over zero (suc m) [] less = refl
  any_over (suc n) (suc m) [] less = refl
  any_over zero (suc m) (b ∷ bytes) less = grind (arith, nat_tests, any_over zero m bytes)
  any_over (suc n) (suc m) (b ∷ bytes) less = grind (arith, nat_tests, any_over n m bytes)
