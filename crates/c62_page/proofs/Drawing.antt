-- What is written of the page so far, with what is still to be written.
use Rattle.std.proofs.Common.{◌≡◌, ◌∙◌, ℕ, ◌+◌, ◌-◌, ◌<◌, List, [], ◌∷◌, ◌++◌, length, get_or, drop, refl, sym, ap}
use Rattle.std.specs.List.{flat_map, range_with_len}
use Rattle.std.proofs.lemmas.Grind.{flat_map-append}
use Rattle.c62_grid.proofs.Drawing.{one_element as one_of_elements, one_more as one_of_numbers}
use Rattle.c62_markup.specs.Page.{Piece, page, written}

-- the bytes of what each writes
bytes_of : {X : Type 0} (f : X → List Piece) (xs : List X) → page (flat_map f xs) ≡ flat_map (λ x. page (f x)) xs
bytes_of f [] = refl
bytes_of f (x ∷ xs) = flat_map-append written (f x) (flat_map f xs)
    ∙ ap (λ bytes. page (f x) ++ bytes) (bytes_of f xs)

-- the next of the numbers before b is written
pub one_more : (f : ℕ → List Piece) (a b : ℕ) (done more whole : List ℕ) → a < b
    → done ++ page (flat_map f (range_with_len a (b - a))) ≡ whole → more ≡ done ++ page (f a)
    → more ++ page (flat_map f (range_with_len (a + 1) (b - (a + 1)))) ≡ whole
one_more f a b done more whole less so now =
    ap (λ bytes. more ++ bytes) (bytes_of f (range_with_len (a + 1) (b - (a + 1))))
    ∙ one_of_numbers (λ n. page (f n)) a b done more whole less
    (ap (λ bytes. done ++ bytes) (sym (bytes_of f (range_with_len a (b - a)))) ∙ so) now

-- the next of these elements is written
pub one_element : {X : Type 0} (f : X → List Piece) (xs : List X) (i : ℕ) (d : X) (done more whole : List ℕ)
    → i < length xs
    → done ++ page (flat_map f (drop i xs)) ≡ whole → more ≡ done ++ page (f (get_or xs i d))
    → more ++ page (flat_map f (drop (i + 1) xs)) ≡ whole
one_element f xs i d done more whole within so now =
    ap (λ bytes. more ++ bytes) (bytes_of f (drop (i + 1) xs))
    ∙ one_of_elements (λ x. page (f x)) xs i d done more whole within
    (ap (λ bytes. done ++ bytes) (sym (bytes_of f (drop i xs))) ∙ so) now
