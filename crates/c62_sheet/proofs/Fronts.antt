-- The first placements of a set, one after the other.
use Rattle.c62_sheet.proofs.Common.{◌≡◌, ℕ, zero, suc, length, [], ◌∷◌, None, refl, sym, ap, ◌∙◌, slice_set, Spots}
use Rattle.c62_sheet.proofs.Common.{spot_at, nothing_placed}
use Rattle.c62_sheet.proofs.RowsOf.{nothing_out}

-- the set of what is placed of the numbers below i
abbrev pub first_placed : Spots → ℕ → Spots
first_placed [] i = []
first_placed (spot ∷ set) zero = None ∷ first_placed set zero
first_placed (spot ∷ set) (suc i) = spot ∷ first_placed set i

pub length-first : (set : Spots) (i : ℕ) → length (first_placed set i) ≡ length set
length-first [] i = refl
length-first (spot ∷ set) zero = ap suc (length-first set zero)
length-first (spot ∷ set) (suc i) = ap suc (length-first set i)

pub first-none : (set : Spots) → first_placed set 0 ≡ nothing_placed (length set)
first-none [] = refl
first-none (spot ∷ set) = ap (λ (rest : Spots). None ∷ rest) (first-none set)

pub first-all : (set : Spots) → first_placed set (length set) ≡ set
first-all [] = refl
first-all (spot ∷ set) = ap (λ (rest : Spots). spot ∷ rest) (first-all set)

-- the number i isn't placed there
pub first-free : (set : Spots) (i : ℕ) → spot_at (first_placed set i) i ≡ None
first-free [] i = refl
first-free (spot ∷ set) zero = refl
first-free (spot ∷ set) (suc i) = first-free set i

-- one number more
pub first-more : (set : Spots) (i : ℕ) → slice_set (first_placed set i) i (spot_at set i) ≡ first_placed set (suc i)
first-more [] i = refl
first-more (spot ∷ set) zero = refl
first-more (spot ∷ set) (suc i) = ap (λ (rest : Spots). spot ∷ rest) (first-more set i)

pub first-same : (set : Spots) (i : ℕ) → spot_at set i ≡ None → first_placed set (suc i) ≡ first_placed set i
first-same set i none = sym (rw none at (first-more set i)) ∙ nothing_out (first_placed set i) i (first-free set i)
