-- The label field of a line.
use Rattle.c62_line.proofs.Common.{◌≡◌, ℕ, Bool, true, false, List, [], ◌∷◌, length, None, Result, Ok, Err, refl}
use Rattle.c62_line.proofs.Common.{Option, arith, nat_tests, not}
use Rattle.c62_line.proofs.Common.{if◌then◌else◌, Word, list_all, eqb-true, Cause, begins, is_allowed, tokens, is_bars}
use Rattle.c62_line.proofs.Common.{is_star, without_colon}
use Rattle.c62_line.specs.declared.limits.TheConstants.{MOST_LINE}
use Rattle.c62_line.specs.declared.fault.Cause.TheVariants.{ParallelBar, LineTooLong, NotAscii}
use Rattle.std.specs.Prelude.{nat_lt}
use Rattle.c62_token.specs.Number.{is_label}
use Rattle.c62_line.specs.Line.{head_of, label_front, label_field}
use Rattle.c62_token.proofs.TokenLemmas.{tokens_alone}

pub no_label_front : (word : List ℕ) (words : List (List ℕ)) → is_label word ≡ false
    → (label_front (word ∷ words)).0 ≡ None
unfolding label_front
no_label_front word words none = grind (arith, nat_tests)

pub star_field : (line : List ℕ) → begins is_star line ≡ true → label_field line ≡ None
unfolding label_field label_front is_label
star_field [] star = refl
star_field (b ∷ []) star = rw (eqb-true b 42 star) refl
star_field (b ∷ c ∷ rest) star =
    rw (eqb-true b 42 star)
    (grind (arith, nat_tests, tokens_alone 42 c rest, no_label_front (42 ∷ []) (tokens (c ∷ rest)) refl))

-- ---- a line's label is the one in its label field

-- what holds of a line whose head is read: it may be read, and is a comment without a label, or has its tokens behind a
-- label
pub record IsHeadRead (line : List ℕ) (label : Option Word) (words : List (List ℕ)) : Type 0 where
  pub allowed : list_all is_allowed line ≡ true
  pub short : nat_lt MOST_LINE (length line) ≡ false
  pub comment : begins is_star line ≡ true → label ≡ None
  pub front : begins is_star line ≡ false → without_colon (label_front (tokens line)) ≡ Ok (label, words)

by_tests : (allowed long star bars : Bool) (front : Result (Option Word × List (List ℕ)) Cause) (label : Option Word)
    (words : List (List ℕ))
    → (if not allowed then Err NotAscii
    else (if long then Err LineTooLong else
    (if star then Ok (None, []) else (if bars then Err ParallelBar else front)))) ≡ Ok (label, words)
    → (allowed ≡ true) × (long ≡ false) × (star ≡ true → label ≡ None) × (star ≡ false → front ≡ Ok (label, words))
by_tests allowed long star bars front label words is = grind arith

pub head_read : (line : List ℕ) (label : Option Word) (words : List (List ℕ)) → head_of line ≡ Ok (label, words)
    → IsHeadRead line label words
unfolding head_of
head_read line label words is =
    search (by_tests (list_all is_allowed line) (nat_lt MOST_LINE (length line)) (begins is_star line)
    (is_bars (tokens line)) _ label words is)

pub field_is : (line : List ℕ) (label : Option Word) (words : List (List ℕ)) → head_of line ≡ Ok (label, words)
    → label_field line ≡ label
unfolding label_field
field_is line label words is = let read = head_read line label words is in grind (arith, nat_tests, star_field line)
