-- Lists of which only a front counts.
use Rattle.std.proofs.Common.{◌≡◌, Bool, false, ◌||◌, cond, List, [], ◌∷◌, ◌++◌, map, Option, Some, None, refl}
use Rattle.std.proofs.Common.{◌∙◌, ap, inl, inr}
use Rattle.std.specs.Prelude.{filter, find, option_map}
use Rattle.std.specs.List.{list_any}
use Rattle.std.specs.Option.{option_or}
use Rattle.c62_meaning.proofs.Lookup.{In}
use Rattle.c62_flight.specs.Issued.{first_of}
use Rattle.std.proofs.Common.{arith}

-- ---- the first that there is

pub first_of-none : {X Y : Type 0} (f : X → Option Y) (xs : List X) → ((x : X) → In x xs → f x ≡ None)
    → first_of f xs ≡ None
first_of-none f [] h = refl
first_of-none f (x ∷ xs) h = grind (arith, first_of-none f xs)

pub first_of-front : {X Y : Type 0} (f : X → Option Y) (xs ys : List X) → ((y : X) → In y ys → f y ≡ None)
    → first_of f (xs ++ ys) ≡ first_of f xs
first_of-front f [] ys h = first_of-none f ys h
first_of-front f (x ∷ xs) ys h = ap (λ o. option_or (f x) o) (first_of-front f xs ys h)

pub first_of-same : {X Y : Type 0} (f g : X → Option Y) (xs : List X) → ((x : X) → In x xs → f x ≡ g x)
    → first_of f xs ≡ first_of g xs
first_of-same f g [] h = refl
first_of-same f g (x ∷ xs) h = grind (arith, first_of-same f g xs)

-- ---- whether there is one

pub list_any-none : {X : Type 0} (f : X → Bool) (xs : List X) → ((x : X) → In x xs → f x ≡ false)
    → list_any f xs ≡ false
list_any-none f [] h = refl
list_any-none f (x ∷ xs) h = ap (λ b. b || list_any f xs) (h x (inl refl)) ∙ list_any-none f xs (λ y k. h y (inr k))

pub list_any-front : {X : Type 0} (f : X → Bool) (xs ys : List X) → ((y : X) → In y ys → f y ≡ false)
    → list_any f (xs ++ ys) ≡ list_any f xs
list_any-front f [] ys h = list_any-none f ys h
list_any-front f (x ∷ xs) ys h = ap (λ b. f x || b) (list_any-front f xs ys h)

pub list_any-same : {X : Type 0} (f g : X → Bool) (xs : List X) → ((x : X) → In x xs → f x ≡ g x)
    → list_any f xs ≡ list_any g xs
list_any-same f g [] h = refl
list_any-same f g (x ∷ xs) h = grind (arith, list_any-same f g xs)

-- ---- the first of those that pass

pub find-none : {X : Type 0} (f : X → Bool) (xs : List X) → ((x : X) → In x xs → f x ≡ false) → find f xs ≡ None
find-none f [] h = refl
find-none f (x ∷ xs) h = ap (λ b. cond b (Some x) (find f xs)) (h x (inl refl)) ∙ find-none f xs (λ y k. h y (inr k))

pub find-front : {X : Type 0} (f : X → Bool) (xs ys : List X) → ((y : X) → In y ys → f y ≡ false)
    → find f (xs ++ ys) ≡ find f xs
find-front f [] ys h = find-none f ys h
find-front f (x ∷ xs) ys h = ap (λ o. cond (f x) (Some x) o) (find-front f xs ys h)

pub find-same : {X : Type 0} (f g : X → Bool) (xs : List X) → ((x : X) → In x xs → f x ≡ g x) → find f xs ≡ find g xs
find-same f g [] h = refl
find-same f g (x ∷ xs) h = grind (arith, find-same f g xs)

-- ---- those that pass

pub filter-none : {X : Type 0} (f : X → Bool) (xs : List X) → ((x : X) → In x xs → f x ≡ false) → filter f xs ≡ []
filter-none f [] h = refl
filter-none f (x ∷ xs) h = grind (arith, filter-none f xs)

pub filter-front : {X : Type 0} (f : X → Bool) (xs ys : List X) → ((y : X) → In y ys → f y ≡ false)
    → filter f (xs ++ ys) ≡ filter f xs
filter-front f [] ys h = filter-none f ys h
filter-front f (x ∷ xs) ys h = ap (λ r. cond (f x) (x ∷ r) r) (filter-front f xs ys h)

pub filter-same : {X : Type 0} (f g : X → Bool) (xs : List X) → ((x : X) → In x xs → f x ≡ g x)
    → filter f xs ≡ filter g xs
filter-same f g [] h = refl
filter-same f g (x ∷ xs) h = grind (arith, filter-same f g xs)

-- ---- lists of which only the rest counts, and what is made of a list

pub first_of-behind : {X Y : Type 0} (f : X → Option Y) (xs ys : List X) → ((x : X) → In x xs → f x ≡ None)
    → first_of f (xs ++ ys) ≡ first_of f ys
first_of-behind f [] ys h = refl
first_of-behind f (x ∷ xs) ys h = grind (arith, first_of-behind f xs ys)

pub first_of-map : {X Y Z : Type 0} (f : Y → Option Z) (g : X → Y) (xs : List X)
    → first_of f (map g xs) ≡ first_of (λ x. f (g x)) xs
first_of-map f g [] = refl
first_of-map f g (x ∷ xs) = ap (λ o. option_or (f (g x)) o) (first_of-map f g xs)

pub list_any-behind : {X : Type 0} (f : X → Bool) (xs ys : List X) → ((x : X) → In x xs → f x ≡ false)
    → list_any f (xs ++ ys) ≡ list_any f ys
list_any-behind f [] ys h = refl
list_any-behind f (x ∷ xs) ys h = grind (arith, list_any-behind f xs ys)

pub list_any-map : {X Y : Type 0} (f : Y → Bool) (g : X → Y) (xs : List X)
    → list_any f (map g xs) ≡ list_any (λ x. f (g x)) xs
list_any-map f g [] = refl
list_any-map f g (x ∷ xs) = ap (λ b. f (g x) || b) (list_any-map f g xs)

pub filter-behind : {X : Type 0} (f : X → Bool) (xs ys : List X) → ((x : X) → In x xs → f x ≡ false)
    → filter f (xs ++ ys) ≡ filter f ys
filter-behind f [] ys h = refl
filter-behind f (x ∷ xs) ys h = grind (arith, filter-behind f xs ys)

pub filter-map : {X Y : Type 0} (f : Y → Bool) (g : X → Y) (xs : List X)
    → filter f (map g xs) ≡ map g (filter (λ x. f (g x)) xs)
filter-map f g [] = refl
filter-map f g (x ∷ xs) = grind (arith, filter-map f g xs)

pub find-map : {X Y : Type 0} (f : Y → Bool) (g : X → Y) (xs : List X)
    → find f (map g xs) ≡ option_map g (find (λ x. f (g x)) xs)
find-map f g [] = refl
find-map f g (x ∷ xs) = grind (arith, find-map f g xs)
