-- Text in a page opens nothing, and is read as it is.
use Rattle.std.proofs.Common.{◌≡◌, ℕ, List, [], ◌∷◌, ◌++◌, ◌==◌, ◌||◌, Bool, true, false, refl, arith}
use Rattle.std.specs.List.{list_any}
use Rattle.std.proofs.lemmas.Bool.Decides.{nat_tests}
use Rattle.std.proofs.lemmas.List.Folds.{list_any-append}
use Rattle.c62_markup.specs.Escape.{escaped, escaped_byte}
use Rattle.c62_markup.specs.Laws.{IsRead, OpensNothing, Reads, is_angle}
use Rattle.c62_markup.specs.Laws.Reads.{nothing, less, greater, ampersand, double, single, itself}

-- no byte that stands for this one passes either test
abbrev Opens : ℕ → (ℕ → Bool) → Type 0
Opens b test = list_any test (escaped_byte b) ≡ false

tags : (b : ℕ) (lt gt amp dq sq : Bool) → (b == 60) ≡ lt → (b == 62) ≡ gt → (b == 38) ≡ amp → (b == 34) ≡ dq
    → (b == 39) ≡ sq → Opens b is_angle
tags b true gt amp dq sq l g a d s = rw l refl
tags b false true amp dq sq l g a d s = rw (l, g) refl
tags b false false true dq sq l g a d s = rw (l, g, a) refl
tags b false false false true sq l g a d s = rw (l, g, a, d) refl
tags b false false false false true l g a d s = rw (l, g, a, d, s) refl
tags b false false false false false l g a d s = rw (l, g, a, d, s, l, g) refl

quotes : (b : ℕ) (lt gt amp dq sq : Bool) → (b == 60) ≡ lt → (b == 62) ≡ gt → (b == 38) ≡ amp → (b == 34) ≡ dq
    → (b == 39) ≡ sq → Opens b (λ b. b == 34 || b == 39)
quotes b true gt amp dq sq l g a d s = rw l refl
quotes b false true amp dq sq l g a d s = rw (l, g) refl
quotes b false false true dq sq l g a d s = rw (l, g, a) refl
quotes b false false false true sq l g a d s = rw (l, g, a, d) refl
quotes b false false false false true l g a d s = rw (l, g, a, d, s) refl
quotes b false false false false false l g a d s = rw (l, g, a, d, s, d, s) refl

-- what no byte's own bytes pass, none of a text's does
none : (test : ℕ → Bool) → ((b : ℕ) → Opens b test) → (text : List ℕ) → list_any test (escaped text) ≡ false
none test each [] = refl
none test each (b ∷ rest) = rw (list_any-append test (escaped_byte b) (escaped rest), each b, none test each rest) refl

pub opens_nothing : (text : List ℕ) → OpensNothing text
opens_nothing text = record {
  tags = none is_angle
      (λ b. tags b (b == 60) (b == 62) (b == 38) (b == 34) (b == 39) refl refl refl refl refl) text;
  quotes = none (λ b. b == 34 || b == 39)
      (λ b. quotes b (b == 60) (b == 62) (b == 38) (b == 34) (b == 39) refl refl refl refl refl) text;
}

read_byte : (b : ℕ) (page text : List ℕ) (lt gt amp dq sq : Bool) → (b == 60) ≡ lt → (b == 62) ≡ gt → (b == 38) ≡ amp
    → (b == 34) ≡ dq → (b == 39) ≡ sq → Reads page text → Reads (escaped_byte b ++ page) (b ∷ text)
read_byte b page text true gt amp dq sq l g a d s behind =
    let is : b ≡ 60 = grind (arith, nat_tests, l) in rw is (less behind)
read_byte b page text false true amp dq sq l g a d s behind =
    let is : b ≡ 62 = grind (arith, nat_tests, g) in rw is (greater behind)
read_byte b page text false false true dq sq l g a d s behind =
    let is : b ≡ 38 = grind (arith, nat_tests, a) in rw is (ampersand behind)
read_byte b page text false false false true sq l g a d s behind =
    let is : b ≡ 34 = grind (arith, nat_tests, d) in rw is (double behind)
read_byte b page text false false false false true l g a d s behind =
    let is : b ≡ 39 = grind (arith, nat_tests, s) in rw is (single behind)
read_byte b page text false false false false false l g a d s behind = rw (l, g, a, d, s) (itself a behind)

pub is_read : (text : List ℕ) → IsRead text
is_read [] = nothing
is_read (b ∷ rest) =
    read_byte b (escaped rest) rest (b == 60) (b == 62) (b == 38) (b == 34) (b == 39)
    refl refl refl refl refl (is_read rest)
