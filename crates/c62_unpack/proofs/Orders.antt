-- Instructions that are taken one after the other are the same in another order.
use Rattle.std.proofs.Common.{arith, ◌≡◌, ◌∙◌, ℕ, ◌+◌, ◌-◌, ◌<◌, ◌≤◌, List, [], ◌∷◌, ◌++◌, length, get_or, refl, sym}
use Rattle.std.proofs.Common.{ap, subst, append-nil}
use Rattle.std.specs.Prelude.{IsPermutation}
use Rattle.std.specs.List.{remove}
use Rattle.std.proofs.lemmas.List.Edits.{length-remove}
use Rattle.std.proofs.lemmas.List.Sorted.{IsPermutation-more, IsPermutation-refl}
use Rattle.c62_packet.specs.declared.placed.Placed.{Placed}

-- so many of these are taken, and the others are left, with what each of them uses
pub record AreTaken (placed taken left : List Placed) (uses count : ℕ) : Type 0 where
  pub all : IsPermutation placed (taken ++ left)
  pub long : count + length left ≡ length placed
  pub each : uses ≡ length left

pub none_taken : (placed left taken : List Placed) (uses : ℕ) → taken ≡ [] → left ≡ placed → uses ≡ length placed
    → AreTaken placed taken left uses 0
none_taken placed left taken uses none all each =
    let start : AreTaken placed [] placed uses 0 = record
    { all = IsPermutation-refl placed; long = omega arith; each = each } in
    subst (λ (ts : List Placed). AreTaken placed ts left uses 0) (sym none)
    (subst (λ (ls : List Placed). AreTaken placed [] ls uses 0) (sym all) start)

pub one_taken : (placed taken left more rest : List Placed) (p : Placed) (k uses fewer count : ℕ)
    → AreTaken placed taken left uses count → k < length left
    → p ≡ get_or left k p → more ≡ taken ++ p ∷ [] → rest ≡ remove left k → fewer + 1 ≡ uses
    → AreTaken placed more rest fewer (count + 1)
one_taken placed taken left more rest p k uses fewer count are inside is more_is rest_is fewer_is =
    let short = length-remove left k inside in
    let long = are.long in
    let each = are.each in
    let same : length rest ≡ length (remove left k) = ap length rest_is in
    let all : IsPermutation placed ((taken ++ p ∷ []) ++ remove left k) = IsPermutation-more placed taken left k p
    inside is are.all in
    record {
      all =
          subst (λ (ms : List Placed). IsPermutation placed (ms ++ rest)) (sym more_is)
          (subst (λ (rs : List Placed). IsPermutation placed ((taken ++ p ∷ []) ++ rs)) (sym rest_is) all);
      long = omega (arith, long, short, same, inside);
      each = omega (arith, each, short, same, inside, fewer_is);
    }

pub all_taken : (placed taken left : List Placed) (uses count : ℕ) → AreTaken placed taken left uses count
    → length placed ≤ count → IsPermutation placed taken
all_taken placed taken [] uses count are end = subst (IsPermutation placed) (append-nil taken) are.all
all_taken placed taken (p ∷ left) uses count are end = absurd (let long = are.long in omega (arith, long, end))
