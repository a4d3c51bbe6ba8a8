-- Rows, one more.
use Rattle.std.proofs.Common.{◌≡◌, ◌∙◌, ℕ, zero, suc, ◌+◌, List, [], ◌∷◌, ◌++◌, refl, sym, ap, arith, append_assoc}
use Rattle.std.proofs.Common.{add-one}
use Rattle.std.specs.List.{flat_map, range_with_len}
use Rattle.std.proofs.lemmas.List.{append-nil}

-- the last of the rows from a on
more_from : (row : ℕ → List ℕ) (a n : ℕ)
    → flat_map row (range_with_len a (suc n)) ≡ flat_map row (range_with_len a n) ++ row (a + n)
more_from row a zero = append-nil (row a) ∙ ap row (let e : a ≡ a + 0 = omega arith in e)
more_from row a (suc n) =
    let next : a + 1 + n ≡ a + suc n = omega arith in
    ap (λ rest. row a ++ rest) (more_from row (a + 1) n
    ∙ ap (λ k. flat_map row (range_with_len (a + 1) n) ++ row k) next)
    ∙ sym (append_assoc (row a) (flat_map row (range_with_len (a + 1) n)) (row (a + suc n)))

pub one_row_more : (row : ℕ → List ℕ) (n : ℕ)
    → flat_map row (range_with_len 0 (n + 1)) ≡ flat_map row (range_with_len 0 n) ++ row n
one_row_more row n =
    let start : 0 + n ≡ n = omega arith in
    rw add-one (more_from row 0 n ∙ ap (λ k. flat_map row (range_with_len 0 n) ++ row k) start)

pub row_behind : (row : ℕ → List ℕ) (n : ℕ) (front old new : List ℕ) → old ≡ front ++ flat_map row (range_with_len 0 n)
    → new ≡ old ++ row n
    → new ≡ front ++ flat_map row (range_with_len 0 (n + 1))
row_behind row n front old new was is =
    is ∙ ap (λ xs. xs ++ row n) was ∙ append_assoc front (flat_map row (range_with_len 0 n)) (row n)
    ∙ ap (λ xs. front ++ xs) (sym (one_row_more row n))
