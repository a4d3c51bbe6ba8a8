-- Lists that are alike, from what holds at each number.
use Rattle.std.proofs.Common.{◌≡◌, ℕ, suc, ◌+◌, ◌<◌, ◌≤◌, List, [], ◌∷◌, length, map, get_or, refl, sym, ◌∙◌, ap}
use Rattle.std.proofs.Common.{⊎_elim, arith}
use Rattle.std.proofs.lemmas.Bool.{cases_lt}
use Rattle.std.proofs.lemmas.List.{get_or_default}
use Rattle.std.proofs.lemmas.Simd.{map-map}
use Rattle.c62_rows.specs.declared.rows.Row.{Row as RowRead}
use Rattle.c62_rows.specs.declared.rows.Rows.{Rows as RowsRead}
use Rattle.c62_rows.specs.Rows.{row_read, text_of}
use Rattle.c62_check_loop.specs.Relined.{row_unlined, AreRelined}

-- at each number below n both give the same
abbrev pub AreAlike : {A B : Type 0} → (A → B) → List A → List A → ℕ → Type 0
AreAlike {A} f xs ys n = (k : ℕ) (d e : A) → k < n → f (get_or xs k d) ≡ f (get_or ys k e)

pub alike_more : {A B : Type 0} (f : A → B) (xs ys : List A) (n : ℕ) (x y : A) → n < length xs → n < length ys
    → x ≡ get_or xs n x → y ≡ get_or ys n y
    → f x ≡ f y → AreAlike f xs ys n → AreAlike f xs ys (n + 1)
alike_more f xs ys n x y inside within is_x is_y one old k d e l =
    ⊎_elim {C = f (get_or xs k d) ≡ f (get_or ys k e)} (λ (h : k < n). old k d e h)
    (λ (h : n ≤ k). (let s : n ≡ k = omega arith in
    let a : x ≡ get_or xs k d = is_x ∙ get_or_default xs n x d inside ∙ ap (λ m. get_or xs m d) s in
    let b : y ≡ get_or ys k e = is_y ∙ get_or_default ys n y e within ∙ ap (λ m. get_or ys m e) s in
    sym (ap f a) ∙ one ∙ ap f b))
    (cases_lt k n)

pub alike_whole : {A B : Type 0} (f : A → B) (xs ys : List A) → length ys ≡ length xs → AreAlike f xs ys (length xs)
    → map f xs ≡ map f ys
alike_whole f [] [] e h = refl
alike_whole f [] (y ∷ ys) e h = absurd (omega arith)
alike_whole f (x ∷ xs) [] e h = absurd (omega arith)
alike_whole {A} {B} f (x ∷ xs) (y ∷ ys) e h =
    let front : f x ≡ f y = h 0 x y (omega arith) in
    let rest : map f xs ≡ map f ys = alike_whole f xs ys (omega arith) (λ k d q l. h (suc k) d q (omega arith)) in
    ap (λ z. z ∷ map f xs) front ∙ ap (λ zs. f y ∷ zs) rest

-- ---- texts

-- rows one for one, and labels at the same ones
pub same_text : (text other : RowsRead) (rows others : List RowRead) (aims names : List ℕ) → rows ≡ text.rows.items
    → others ≡ other.rows.items
    → aims ≡ text.aims.items → names ≡ other.aims.items
    → map (λ row. row_unlined (row_read row)) rows ≡ map (λ row. row_unlined (row_read row)) others
    → aims ≡ names → AreRelined (text_of text) (text_of other)
same_text text other rows others aims names are_rows are_others are_aims are_names same labels = record {
  rows = map-map row_unlined row_read text.rows.items
      ∙ ap (λ xs. map (λ row. row_unlined (row_read row)) xs) (sym are_rows) ∙ same
      ∙ ap (λ xs. map (λ row. row_unlined (row_read row)) xs) are_others
      ∙ sym (map-map row_unlined row_read other.rows.items);
  aims = sym are_aims ∙ labels ∙ are_names;
}
