-- Crowds, as they are found among those that wait for a room.
use Rattle.std.proofs.Common.{arith, ◌≡◌, ℕ, zero, suc, ◌<◌, Option, Some, None, refl}
use Rattle.std.proofs.Common.{inl, inr}
use Rattle.std.specs.Prelude.{IsSome}
use Rattle.std.proofs.lemmas.Option.{none-some}
use Rattle.c62_sheet.specs.Counts.{HasCount}

-- what holds of the same numbers is counted alike
pub count_same : (P Q : ℕ → Type 0) (n count : ℕ) → ((j : ℕ) → j < n → P j → Q j) → ((j : ℕ) → j < n → Q j → P j)
    → HasCount P n count
    → HasCount Q n count
count_same P Q zero count into out has = has
count_same P Q (suc n) count into out has = elim has [
  | inl w ↦
      inl (
        into n (omega arith) w.0,
        (
          w.1.0,
          w.1.1,
          count_same P Q n w.1.0 (λ j low p. into j (omega (arith, low)) p) (λ j low q. out j (omega (arith, low)) q)
              w.1.2,
        ),
      )
  | inr w ↦
      inr (
        λ q. w.0 (out n (omega arith) q),
        count_same P Q n count (λ j low p. into j (omega (arith, low)) p)
            (λ j low q. out j (omega (arith, low)) q) w.1,
      )
]

pub is_some : {A : Type 0} (o : Option A) (x : A) → o ≡ Some x → IsSome o
is_some None x e = absurd (none-some x e)
is_some (Some y) x e = refl

pub the_one : {A : Type 0} (o : Option A) → IsSome o → (x : A) × (o ≡ Some x)
the_one None is = cc
the_one (Some x) is = (x, refl)
