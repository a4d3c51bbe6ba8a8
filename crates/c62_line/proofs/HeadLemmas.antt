-- Lines without a label, and lines without a colon, which have none.
use Rattle.c62_line.proofs.Common.{◌≡◌, ℕ, true, false, eqb, List, [], ◌∷◌, refl, ap, arith, to_ascii_lowercase}
use Rattle.c62_line.proofs.Common.{list_any, nat_tests, grow}
use Rattle.c62_line.proofs.Common.{tokens, has_colon, ◌≤◌, length, Option, None, Ok, list_all, le-ltb, begins}
use Rattle.c62_line.proofs.Common.{is_allowed, Word, Says}
use Rattle.c62_line.proofs.Common.{is_bars, is_star}
use Rattle.c62_token.proofs.TokenLemmas.{either, on_test}
use Rattle.c62_line.specs.declared.limits.TheConstants.{MOST_LINE}
use Rattle.c62_line.specs.Line.{head_of, label_front, line_of, rest_says, label_field}
use Rattle.c62_token.proofs.SpelledTokens.{is_text}
use Rattle.c62_op.specs.declared.set.InstructionSet.{InstructionSet}

-- ---- lines without a colon

no_colon_grown : (b : ℕ) (words : List (List ℕ)) → eqb b 58 ≡ false → has_colon words ≡ false
    → has_colon (grow b words) ≡ false
no_colon_grown b words other none = grind (arith, nat_tests)

-- a line without colons has no token that is one
pub no_colon_at_all : (line : List ℕ) → list_any (λ b. eqb b 58) line ≡ false → has_colon (tokens line) ≡ false
no_colon_at_all (b ∷ c ∷ rest) none =
    let other : eqb b 58 ≡ false = grind (arith, nat_tests) in
    let small : eqb (to_ascii_lowercase b) 58 ≡ false = grind (arith, nat_tests) in
    let later = no_colon_at_all (c ∷ rest) (grind (arith, nat_tests)) in
    let last = no_colon_at_all rest (grind (arith, nat_tests)) in
    simp (on_test has_colon, small, later, no_colon_grown b (tokens (c ∷ rest)) other later, last, either)
no_colon_at_all line none = grind (arith, nat_tests)

no_colon_bytes : (bytes : List ℕ) → list_all is_text bytes ≡ true → list_any (λ b. eqb b 58) bytes ≡ false
no_colon_bytes [] text = refl
no_colon_bytes (b ∷ bytes) text = grind (arith, nat_tests, no_colon_bytes bytes)

-- text has no token that is a colon
pub no_colon : (line : List ℕ) → list_all is_text line ≡ true → has_colon (tokens line) ≡ false
no_colon line text = no_colon_at_all line (no_colon_bytes line text)

pub no_label : (words : List Word) → has_colon words ≡ false → label_front words ≡ (None, words)
unfolding label_front
no_label words none = grind arith

-- the head of a line without a label
pub head_plain : (line : List ℕ) → list_all is_allowed line ≡ true → length line ≤ MOST_LINE
    → begins is_star line ≡ false → is_bars (tokens line) ≡ false
    → has_colon (tokens line) ≡ false → head_of line ≡ Ok (None, tokens line)
unfolding head_of
head_plain line allowed short no_star no_bars none =
    rw (allowed, le-ltb MOST_LINE (length line) short, no_star, no_bars, no_label (tokens line) none, none) refl

pub line_by_head : (isa : InstructionSet) (line : List ℕ) (label : Option Word) (words : List Word) (says : Says)
    → head_of line ≡ Ok (label, words)
    → rest_says isa words ≡ Ok says → line_of isa line ≡ Ok (label, says)
unfolding line_of
line_by_head isa line label words says head rest = rw (head, rest) refl

pub plain_field : (line : List ℕ) → list_any (λ b. eqb b 58) line ≡ false → label_field line ≡ None
unfolding label_field
plain_field line none = ap (λ (front : Option Word × List Word). front.0)
    (no_label (tokens line) (no_colon_at_all line none))
