-- Lists that are filled or read one by one.
use Rattle.std.proofs.Common.{◌≡◌, ◌∙◌, ℕ, suc, ◌+◌, ◌<◌, ◌≤◌, List, [], ◌∷◌, ◌++◌, map, length, take, drop}
use Rattle.std.proofs.Common.{get_or, set, sym, ap, arith}
use Rattle.std.proofs.Math.Seq.{take-suc-set, take-suc, drop-cons}
use Rattle.std.proofs.lemmas.List.{map-append, take_all}

-- a front of a list that is filled, each element by one of another
pub filled_more : {X Y : Type 0} (f : X → Y) (xs : List X) (ys : List Y) (i : ℕ) (d : X)
    → i < length xs → length ys ≡ length xs → take i ys ≡ map f (take i xs)
    → take (i + 1) (set ys i (f (get_or xs i d))) ≡ map f (take (i + 1) xs)
filled_more f xs ys i d inside same so_far =
    let within : i < length ys = omega arith in
    let next : i + 1 ≡ suc i = omega arith in
    ap (λ (n : ℕ). take n (set ys i (f (get_or xs i d)))) next
    ∙ take-suc-set ys i (f (get_or xs i d)) within
    ∙ ap (λ zs. zs ++ f (get_or xs i d) ∷ []) so_far
    ∙ sym (map-append f (take i xs) (get_or xs i d ∷ []))
    ∙ ap (λ zs. map f zs) (sym (take-suc xs i d inside))
    ∙ ap (λ (n : ℕ). map f (take n xs)) (sym next)

pub filled_all : {X Y : Type 0} (f : X → Y) (xs : List X) (ys : List Y) (i : ℕ)
    → length xs ≤ i → length ys ≡ length xs → take i ys ≡ map f (take i xs) → ys ≡ map f xs
filled_all f xs ys i all same so_far =
    let within : length ys ≤ i = omega arith in
    sym (take_all i ys within) ∙ so_far ∙ ap (λ zs. map f zs) (take_all i xs all)

-- what is left of a list from an index on
pub rest_from : {X : Type 0} (xs : List X) (i : ℕ) (d : X) → i < length xs → drop i xs ≡ get_or xs i d ∷ drop (i + 1) xs
rest_from xs i d inside =
    let next : i + 1 ≡ suc i = omega arith in
    drop-cons xs i d inside ∙ ap (λ (n : ℕ). get_or xs i d ∷ drop n xs) (sym next)
