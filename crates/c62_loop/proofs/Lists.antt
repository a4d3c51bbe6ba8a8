-- Places in lists, parts of them, and lists that are mapped.
use Rattle.std.proofs.Common.{◌≡◌, ℕ, zero, suc, ◌+◌, ◌<◌, ◌≤◌, Bool, true, List, [], ◌∷◌, ◌++◌, map, length, get_or}
use Rattle.std.proofs.Common.{take, Some, refl, ◌∙◌, ap, ◌⊎◌, inl, inr, arith}
use Rattle.std.specs.Prelude.{All, slice_get, filter}
use Rattle.std.specs.List.Sorted.{IsStrictlyIncreasing}
use Rattle.std.proofs.lemmas.Bool.{cases_order}
use Rattle.std.proofs.lemmas.Option.{none-some, slice_get_within, get_or_from_slice_get}
use Rattle.std.proofs.lemmas.List.Kept.{AllPairs-from_increasing}
use Rattle.c62_meaning.proofs.Lookup.{In}

-- ---- places in lists

pub at_place : {X : Type 0} (xs : List X) (i : ℕ) (x : X) → slice_get xs i ≡ Some x → In x xs
at_place [] i x e = absurd (none-some x e)
at_place (y ∷ xs) i x e = grind (arith, at_place xs)

pub place_of : {X : Type 0} (xs : List X) (x : X) → In x xs → (i : ℕ) × (slice_get xs i ≡ Some x)
place_of [] x h = absurd h
place_of (y ∷ xs) x (inl s) = (0, ap Some s)
place_of (y ∷ xs) x (inr h) = let r = place_of xs x h in (suc r.0, r.1)

pub get_cases : {X : Type 0} (xs ys : List X) (i : ℕ) (x : X) → slice_get (xs ++ ys) i ≡ Some x
    → (slice_get xs i ≡ Some x) ⊎ ((k : ℕ) × (i ≡ length xs + k) × (slice_get ys k ≡ Some x))
get_cases [] ys i x e = inr (i, omega arith, e)
get_cases (y ∷ xs) ys i x e = grind (arith, get_cases xs ys)

pub in_take : {X : Type 0} (i : ℕ) (xs : List X) (x : X) → In x (take i xs) → In x xs
in_take zero xs x h = absurd h
in_take (suc i) [] x h = absurd h
in_take (suc i) (y ∷ xs) x (inl e) = inl e
in_take (suc i) (y ∷ xs) x (inr h) = inr (in_take i xs x h)

-- of rising numbers none stands twice
pub rising_once : (ns : List ℕ) → IsStrictlyIncreasing ns → (i j n : ℕ) → slice_get ns i ≡ Some n
    → slice_get ns j ≡ Some n → i ≡ j
rising_once ns rises i j n at_i at_j = elim (cases_order i j) [
  | inl e ↦ e
  | inr (inl l) ↦ absurd (below i j l at_i at_j)
  | inr (inr l) ↦ absurd (below j i l at_j at_i)
]
  where
    below : (i j : ℕ) → i < j → slice_get ns i ≡ Some n → slice_get ns j ≡ Some n → ⊥
    below i j l at_i at_j =
        let u : get_or ns i 0 < get_or ns j 0 = AllPairs-from_increasing ns rises i j 0 l (slice_get_within ns j n at_j)
        in
        grind (arith, get_or_from_slice_get ns i n 0 at_i, get_or_from_slice_get ns j n 0 at_j)

pub filter_fewer : {X : Type 0} (f g : X → Bool) (xs : List X) → ((x : X) → In x xs → f x ≡ true → g x ≡ true)
    → length (filter f xs) ≤ length (filter g xs)
filter_fewer f g [] h = omega arith
filter_fewer f g (x ∷ xs) h = grind (arith, filter_fewer f g xs)

-- ---- parts of lists

pub get_front : {X : Type 0} (xs ys : List X) (i : ℕ) → i < length xs → slice_get (xs ++ ys) i ≡ slice_get xs i
get_front [] ys i l = absurd (omega arith)
get_front (x ∷ xs) ys i l = grind (arith, get_front xs ys)

pub get_back : {X : Type 0} (xs ys : List X) (i k : ℕ) → i ≡ length xs + k → slice_get (xs ++ ys) i ≡ slice_get ys k
get_back [] ys i k e = let s : i ≡ k = omega arith in ap (λ n. slice_get ys n) s
get_back (x ∷ xs) ys i k e = grind (arith, get_back xs ys)

pub front_at : {X : Type 0} (xs ys : List X) (i : ℕ) (x : X) → slice_get xs i ≡ Some x
    → slice_get (xs ++ ys) i ≡ Some x
front_at [] ys i x e = absurd (none-some x e)
front_at (y ∷ xs) ys i x e = grind (arith, front_at xs ys)

pub taken : {X : Type 0} (i j : ℕ) (xs : List X) (x : X) → slice_get (take i xs) j ≡ Some x → (slice_get xs j ≡ Some x)
    × (take j (take i xs) ≡ take j xs)
taken zero j xs x e = absurd (none-some x e)
taken (suc i) j [] x e = absurd (none-some x e)
taken (suc i) zero (y ∷ xs) x e = (e, refl)
taken (suc i) (suc j) (y ∷ xs) x e = let r = taken i j xs x e in (r.0, ap (λ ys. y ∷ ys) r.1)

pub taken_whole : {X : Type 0} (xs ys : List X) (i : ℕ) (x : X) → slice_get xs i ≡ Some x
    → take i (xs ++ ys) ≡ take i xs
taken_whole [] ys i x e = absurd (none-some x e)
taken_whole (y ∷ xs) ys i x e = grind (arith, taken_whole xs ys)

pub taken_more : {X : Type 0} (xs ys : List X) (k : ℕ) → take (length xs + k) (xs ++ ys) ≡ xs ++ take k ys
taken_more [] ys k = let e : 0 + k ≡ k = omega arith in ap (λ n. take n ys) e
taken_more (x ∷ xs) ys k =
    let e : suc (length xs) + k ≡ suc (length xs + k) = omega arith in
    ap (λ n. take n (x ∷ (xs ++ ys))) e ∙ ap (λ zs. x ∷ zs) (taken_more xs ys k)

-- ---- lists that are mapped

pub in_at : {X : Type 0} (xs : List X) (k : ℕ) (d : X) → k < length xs → In (get_or xs k d) xs
in_at [] k d l = absurd (omega arith)
in_at (x ∷ xs) k d l = grind (arith, in_at xs)

pub all_in : {X : Type 0} (P : X → Type 0) (xs : List X) → ((x : X) → In x xs → P x) → All P xs
all_in P xs h k d l = h (get_or xs k d) (in_at xs k d l)

pub take_map : {X Y : Type 0} (f : X → Y) (i : ℕ) (xs : List X) → take i (map f xs) ≡ map f (take i xs)
take_map f zero xs = refl
take_map f (suc i) xs = grind (arith, take_map f i)

pub from_mapped : {X Y : Type 0} (f : X → Y) (xs : List X) (i : ℕ) (y : Y) → slice_get (map f xs) i ≡ Some y → (x : X)
    × (slice_get xs i ≡ Some x) × (y ≡ f x)
from_mapped f [] i y e = absurd (none-some y e)
from_mapped f (x ∷ xs) i y e = grind (arith, from_mapped f xs)

pub in_mapped : {X Y : Type 0} (f : X → Y) (xs : List X) (y : Y) → In y (map f xs) → (x : X) × In x xs × (y ≡ f x)
in_mapped f [] y h = absurd h
in_mapped f (x ∷ xs) y h = grind (arith, in_mapped f xs y)
