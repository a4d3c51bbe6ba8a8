-- The best number of a side, as far as a walk has come.
use Rattle.c62_sheet.proofs.Common.{arith, ◌≡◌, ℕ, zero, suc, ◌+◌, ◌<◌, ◌≤◌, List, length, Option, Some, None, IsSome}
use Rattle.c62_sheet.proofs.Common.{inl, inr, ◌⊎◌, refl, cases_eq}
use Rattle.c62_sheet.proofs.Common.{Side, Insn, Spots, spot_at, IsReady, IsReadyOn, cases_Bool, is_none, MatchOption}
use Rattle.c62_sheet.proofs.Common.{IfSome, side, IsBefore, IsPick}
use Rattle.c62_sheet.proofs.Common.{HasNoPick, IsComplete}
use Rattle.c62_depend.specs.Height.{height}
use Rattle.c62_sheet.proofs.Optional.{is_none-is}

-- b is the pick among the numbers below n
pub record IsBest (block : List Insn) (set : Spots) (of : Side) (n b : ℕ) : Type 0 where
  pub below : b < n
  pub competes : IsReadyOn block set of b
  pub best : (k : ℕ) → k < n → IsReadyOn block set of k → IsBefore block b k

-- the best of the numbers below n, where there is one
pub record IsBestOf (block : List Insn) (set : Spots) (of : Side) (n : ℕ) (best : Option ℕ) : Type 0 where
  pub cases : MatchOption best ((k : ℕ) → k < n → IsReadyOn block set of k → ⊥) (IsBest block set of n)

module _ (block : List Insn) (set : Spots) (of : Side) where
  -- n is better than the best so far
  pub best_taken : (n : ℕ) (best : Option ℕ) → IsBestOf block set of n best
      → IfSome best (λ b. height block b < height block n)
      → IsReadyOn block set of n → IsBestOf block set of (n + 1) (Some n)
  best_taken n None is higher competes = record {
    cases = record { below = omega arith; competes = competes; best = λ k lt w. grind (arith, is.cases k) };
  }
  best_taken n (Some b) is higher competes = record {
    cases = record { below = omega arith; competes = competes; best = λ k lt w. grind (arith, is.cases.best k) };
  }

  -- n is not
  pub best_kept : (n : ℕ) (best : Option ℕ) → IsBestOf block set of n best
      → (IsReadyOn block set of n → IfSome best (λ b. height block b < height block n) → ⊥)
      → IsBestOf block set of (n + 1) best
  best_kept n None is out = record {
    cases = λ k lt w. elim (cases_eq k n)
        [ inl e ↦ out (rw e at w) tt | inr ne ↦ is.cases k (omega (arith, lt, ne)) w ];
  }
  best_kept n (Some b) is out = record {
    cases = record {
      below = omega (arith, is.cases.below);
      competes = is.cases.competes;
      best = λ k lt w. elim (cases_eq k n) [
        | inl e ↦ (let low = out (rw e at w) in grind (arith, low, is.cases.below))
        | inr ne ↦ is.cases.best k (omega (arith, lt, ne)) w
      ];
    };
  }

  pub best_all : (n : ℕ) (best : Option ℕ) → length block ≤ n → IsBestOf block set of n best
      → MatchOption best (HasNoPick block set of) (IsPick block set of)
  best_all n None all is = λ k w. is.cases k (omega (arith, w.within)) w
  best_all n (Some b) all is = record
      { competes = is.cases.competes; best = λ k w. is.cases.best k (omega (arith, w.within)) w }

-- there is one pick
pub pick_unique : (block : List Insn) (set : Spots) (of : Side) (i k : ℕ) → IsPick block set of i
    → IsPick block set of k → i ≡ k
pick_unique block set of i k a b = grind (arith, a.best k b.competes, b.best i a.competes)

-- ---- somebody has something to do

-- all numbers below n are placed, or there is a lowest one that is not
pub lowest_missing : (set : Spots) (n : ℕ)
    → ((k : ℕ) → k < n → IsSome (spot_at set k))
    ⊎ ((i : ℕ) × (i < n) × (spot_at set i ≡ None) × ((k : ℕ) → k < i → IsSome (spot_at set k)))
lowest_missing set zero = inl (λ k lt. absurd (omega (arith, lt)))
lowest_missing set (suc n) = elim (lowest_missing set n) [
  | inr w ↦ inr (w.0, omega (arith, w.1), w.2, w.3)
  | inl all ↦ elim (cases_Bool (is_none (spot_at set n))) [
    | inl none ↦ inr (n, omega arith, is_none-is (spot_at set n) none, all)
    | inr some ↦ inl (λ k lt. grind (arith, some, all k))
  ]
]

pub ready_lowest : (block : List Insn) (set : Spots) (i : ℕ) → spot_at set i ≡ None
    → ((k : ℕ) → k < i → IsSome (spot_at set k)) → IsReady block set i
ready_lowest block set i free below = record { free = free; founded = λ h dep. below h dep.1.before }

pub some_ready : (block : List Insn) (set : Spots) → (IsComplete block set → ⊥) → (of : Side)
    × ((i : ℕ) × IsReadyOn block set of i)
some_ready block set left = elim (lowest_missing set (length block)) [
  | inl all ↦ absurd (left all)
  | inr w ↦ (side block w.0, (w.0, record { within = w.1; ready = ready_lowest block set w.0 w.2 w.3; sided = refl }))
]
