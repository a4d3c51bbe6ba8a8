-- Members of lists, by their numbers.
use Rattle.std.proofs.Common.{◌≡◌, ℕ, zero, suc, ◌≤◌, List, [], ◌∷◌, length, Some, refl, ap, subst, inl, inr, arith}
use Rattle.std.specs.Prelude.{map, slice_get, slice_index_or}
use Rattle.std.specs.List.{AllByRecursion}
use Rattle.std.proofs.lemmas.Option.{same_Some}
use Rattle.c62_meaning.proofs.Lookup.{In}

pub no_members : {X : Type 0} (xs : List X) → ((x : X) → In x xs → ⊥) → xs ≡ []
no_members [] none = refl
no_members (x ∷ xs) none = absurd (none x (inl refl))

pub in_get : {X : Type 0} (xs : List X) (number : ℕ) (x : X) → slice_get xs number ≡ Some x → In x xs
in_get [] number x e = absurd cc
in_get (y ∷ xs) zero x e = inl (same_Some y x e)
in_get (y ∷ xs) (suc number) x e = inr (in_get xs number x e)

pub get_in : {X : Type 0} (xs : List X) (x : X) → In x xs → (number : ℕ) × (slice_get xs number ≡ Some x)
get_in [] x h = absurd h
get_in (y ∷ xs) x (inl e) = (0, ap Some e)
get_in (y ∷ xs) x (inr h) = let r = get_in xs x h in (suc r.0, r.1)

pub past : {X : Type 0} (xs : List X) (number : ℕ) (d : X) → length xs ≤ number → slice_index_or xs number d ≡ d
past [] number d l = refl
past (x ∷ xs) zero d l = absurd (omega arith)
past (x ∷ xs) (suc number) d l = past xs number d (omega arith)

pub get_map : {X Y : Type 0} (f : X → Y) (xs : List X) (number : ℕ) (d : X)
    → slice_index_or (map f xs) number (f d) ≡ f (slice_index_or xs number d)
get_map f [] number d = refl
get_map f (x ∷ xs) zero d = refl
get_map f (x ∷ xs) (suc number) d = get_map f xs number d

pub get_some : {X Y : Type 0} (f : X → Y) (xs : List X) (number : ℕ) (x : X) (d : Y) → slice_get xs number ≡ Some x
    → slice_index_or (map f xs) number d ≡ f x
get_some f [] number x d e = absurd cc
get_some f (y ∷ xs) zero x d e = ap f (same_Some y x e)
get_some f (y ∷ xs) (suc number) x d e = get_some f xs number x d e

pub all_in : {X : Type 0} (P : X → Type 0) (xs : List X) (x : X) → AllByRecursion P xs → In x xs → P x
all_in P [] x all h = absurd h
all_in P (y ∷ xs) x all (inl e) = subst P e all.0
all_in P (y ∷ xs) x all (inr h) = all_in P xs x all.1 h
