-- What is told of cycles, one behind the other.
use Rattle.std.proofs.Common.{◌≡◌, ◌∙◌, ℕ, zero, suc, ◌+◌, ◌<◌, ◌≤◌, List, [], ◌++◌, refl, sym, ap, append_assoc}
use Rattle.std.proofs.Common.{arith}
use Rattle.std.specs.List.{flat_map, range_with_len}

pub range_split : {X : Type 0} (f : ℕ → List X) (a n m : ℕ)
    → flat_map f (range_with_len a (n + m)) ≡ flat_map f (range_with_len a n) ++ flat_map f (range_with_len (a + n) m)
range_split f a zero m =
    let none : 0 + m ≡ m = omega arith in
    let same : a ≡ a + 0 = omega arith in
    ap (λ k. flat_map f (range_with_len a k)) none ∙ ap (λ b. flat_map f (range_with_len b m)) same
range_split f a (suc n) m =
    let more : suc n + m ≡ suc (n + m) = omega arith in
    let next : a + 1 + n ≡ a + suc n = omega arith in
    ap (λ k. flat_map f (range_with_len a k)) more
    ∙ ap (λ rest. f a ++ rest)
    (range_split f (a + 1) n m
    ∙ ap (λ b. flat_map f (range_with_len (a + 1) n) ++ flat_map f (range_with_len b m)) next)
    ∙ sym (append_assoc (f a) (flat_map f (range_with_len (a + 1) n)) (flat_map f (range_with_len (a + suc n) m)))

pub range_same : {X : Type 0} (f g : ℕ → List X) (a n : ℕ) → ((c : ℕ) → a ≤ c → c < a + n → f c ≡ g c)
    → flat_map f (range_with_len a n) ≡ flat_map g (range_with_len a n)
range_same f g a zero h = refl
range_same f g a (suc n) h =
    ap (λ told. told ++ flat_map f (range_with_len (a + 1) n)) (h a (omega arith) (omega arith))
    ∙ ap (λ rest. g a ++ rest) (range_same f g (a + 1) n (λ c from to. h c (omega arith) (omega arith)))

pub range_none : {X : Type 0} (f : ℕ → List X) (a n : ℕ) → ((c : ℕ) → a ≤ c → f c ≡ []) → flat_map f
    (range_with_len a n) ≡ []
range_none f a zero h = refl
range_none f a (suc n) h =
    ap (λ told. told ++ flat_map f (range_with_len (a + 1) n)) (h a (omega arith))
    ∙ range_none f (a + 1) n (λ c from. h c (omega arith))

-- so many from the first on, and so many more
pub range_more : {X : Type 0} (f : ℕ → List X) (n m : ℕ)
    → flat_map f (range_with_len 0 (n + m)) ≡ flat_map f (range_with_len 0 n) ++ flat_map f (range_with_len n m)
range_more f n m =
    let start : 0 + n ≡ n = omega arith in
    range_split f 0 n m ∙ ap (λ b. flat_map f (range_with_len 0 n) ++ flat_map f (range_with_len b m)) start
