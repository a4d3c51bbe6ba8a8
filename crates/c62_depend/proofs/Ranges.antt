-- Lists that are made number by number.
use Rattle.c62_depend.proofs.Common.{◌≡◌, ℕ, zero, suc, ◌+◌, ◌<◌, List, [], ◌∷◌, ◌++◌, map, length, get_or, refl, ap}
use Rattle.c62_depend.proofs.Common.{◌∙◌, arith, flat_map}
use Rattle.c62_depend.proofs.Common.{range_with_len, flat_map-append, length-map-range_with_len}
use Rattle.c62_depend.proofs.Common.{get_or-map-range_with_len}
use Rattle.std.proofs.lemmas.List.{append-nil}

pub range_more : (a n m j : ℕ) → a + n ≡ j → m ≡ n + 1 → range_with_len a m ≡ range_with_len a n ++ j ∷ []
range_more a zero m j at next = rw (next) (ap (λ (k : ℕ). k ∷ []) (let same : a ≡ j = omega arith in same))
range_more a (suc n) zero j at next = absurd (omega arith)
range_more a (suc n) (suc m) j at next = ap (λ (rest : List ℕ). a ∷ rest)
    (range_more (a + 1) n m j (omega arith) (omega arith))

-- a number more
pub pieces_more : {A : Type 0} (f : ℕ → List A) (a n m j : ℕ) (old new : List A) → a + n ≡ j → m ≡ n + 1
    → old ≡ flat_map f (range_with_len a n) → new ≡ old ++ f j → new ≡ flat_map f (range_with_len a m)
pieces_more f a n m j old new at next before added =
    rw (added, before, range_more a n m j at next, flat_map-append f (range_with_len a n) (j ∷ []), append-nil (f j))
    refl

-- the elements of a list made number by number
pub list_long : {Y : Type 0} (f : ℕ → Y) (n : ℕ) (ys : List Y) → ys ≡ map f (range_with_len 0 n) → length ys ≡ n
list_long f n ys e = ap length e ∙ length-map-range_with_len f 0 n

pub list_at : {Y : Type 0} (f : ℕ → Y) (n i : ℕ) (ys : List Y) (y : Y) → ys ≡ map f (range_with_len 0 n) → i < n
    → y ≡ get_or ys i y → y ≡ f i
list_at {Y} f n i ys y e within at = at ∙ ap (λ (zs : List Y). get_or zs i y) e
    ∙ get_or-map-range_with_len f 0 n i i y within (omega arith)
