-- What is written so far, with what is still to be written.
use Rattle.std.proofs.Common.{◌≡◌, ◌∙◌, ℕ, suc, ◌+◌, ◌-◌, ◌<◌, List, ◌∷◌, ◌++◌, length, get_or, drop, sym, ap, arith}
use Rattle.std.proofs.Common.{append_assoc, add-one, drop-cons}
use Rattle.std.specs.List.{flat_map, range_with_len}

first_of : {X : Type 0} (f : ℕ → List X) (a n k : ℕ) → n ≡ suc k
    → flat_map f (range_with_len a n) ≡ f a ++ flat_map f (range_with_len (a + 1) k)
first_of f a n k e = ap (λ m. flat_map f (range_with_len a m)) e

-- the next of the numbers before b is written
pub one_more : {X : Type 0} (f : ℕ → List X) (a b : ℕ) (done more whole : List X) → a < b
    → done ++ flat_map f (range_with_len a (b - a)) ≡ whole → more ≡ done ++ f a
    → more ++ flat_map f (range_with_len (a + 1) (b - (a + 1))) ≡ whole
one_more f a b done more whole less so now =
    let rest = flat_map f (range_with_len (a + 1) (b - (a + 1))) in
    let first : flat_map f (range_with_len a (b - a)) ≡ f a ++ rest = first_of f a (b - a) (b - (a + 1)) (omega arith)
    in
    ap (λ text. text ++ rest) now ∙ (append_assoc done (f a) rest ∙ (ap (λ text. done ++ text) (sym first) ∙ so))

-- the next of these elements is written
pub one_element : {X A : Type 0} (f : X → List A) (xs : List X) (i : ℕ) (d : X) (done more whole : List A)
    → i < length xs
    → done ++ flat_map f (drop i xs) ≡ whole → more ≡ done ++ f (get_or xs i d)
    → more ++ flat_map f (drop (i + 1) xs) ≡ whole
one_element f xs i d done more whole within so now =
    let rest = flat_map f (drop (i + 1) xs) in
    let cut : drop i xs ≡ get_or xs i d ∷ drop (i + 1) xs = rw add-one (drop-cons xs i d within) in
    let first : flat_map f (drop i xs) ≡ f (get_or xs i d) ++ rest = ap (λ ys. flat_map f ys) cut in
    ap (λ text. text ++ rest) now
    ∙ (append_assoc done (f (get_or xs i d)) rest ∙ (ap (λ text. done ++ text) (sym first) ∙ so))
