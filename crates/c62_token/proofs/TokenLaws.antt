-- Each token is the longest that fits.
use Rattle.c62_token.proofs.Common.{◌≡◌, ℕ, zero, suc, ◌+◌, ◌<◌, ◌≤◌, Bool, true, false, ◌&&◌, ◌||◌, List, [], ◌∷◌}
use Rattle.c62_token.proofs.Common.{length, take, drop, eqb, leb}
use Rattle.c62_token.proofs.Common.{refl}
use Rattle.c62_token.proofs.Common.{arith, inl, inr, cases_Bool, is_ascii_digit, list_all, nat_tests, begins, is_solid}
use Rattle.c62_token.proofs.Common.{is_word_byte, is_double}
use Rattle.c62_token.proofs.Common.{tokens, ◌++◌, joins, is_sign, ◌∙◌}
use Rattle.std.specs.List.{prefix_len}
use Rattle.std.proofs.lemmas.List.Sums.{prefix_len-le-length}
use Rattle.c62_token.specs.Laws.{HasLongestTokens, IsLongestToken, goes_on, is_pair, may_be_token}
use Rattle.c62_token.proofs.TokenLemmas.{solid_parts, joined_no_double, joined_token, joined_word, tokens_alone}
use Rattle.c62_token.proofs.TokenLemmas.{tokens_blank, tokens_last}
use Rattle.c62_token.proofs.TokenLemmas.{tokens_comment}

-- ---- the bytes of a word that stand first

abbrev word_len : List ℕ → ℕ
word_len bytes = prefix_len is_word_byte bytes

next : (n : ℕ) → 1 + n ≡ suc n
next n = omega arith

word_ends : (bytes : List ℕ) → begins is_word_byte (drop (word_len bytes) bytes) ≡ false
word_ends [] = refl
word_ends (b ∷ bytes) = rw next (grind (arith, nat_tests, word_ends bytes))

are_word : (n : ℕ) (bytes : List ℕ) → n ≤ length bytes → list_all is_word_byte (take n bytes) ≡ leb n (word_len bytes)
are_word zero bytes within = grind (arith, nat_tests)
are_word (suc n) [] within = absurd (omega arith)
are_word (suc n) (b ∷ bytes) within = grind (arith, nat_tests, are_word n bytes)

-- ---- what may be a token, by what joins its first two bytes

pair_is : (b c : ℕ) → is_pair b c ≡ is_double b c
pair_is b c = grind (arith, nat_tests)

joins_is : (b c : ℕ) → joins b c ≡ (is_word_byte c && (is_word_byte b || eqb b 46 || is_sign b && is_ascii_digit c))
joins_is b c = elim (cases_Bool (is_word_byte c)) [
  | inl word ↦ rw word (grind (arith, nat_tests))
  | inr other ↦ let digit : is_ascii_digit c ≡ false = grind (arith, nat_tests) in rw (other, digit)
      (grind (arith, nat_tests))
]

swapped : (one other rest : Bool) → ((one && rest) && other) ≡ ((one && other) && rest)
swapped one other rest = grind (arith, nat_tests)

goes_is : (b c : ℕ) (rest : List ℕ) → goes_on b (c ∷ rest) ≡ (joins b c && list_all is_word_byte rest)
goes_is b c rest = rw (joins_is b c)
    (swapped (is_word_byte c) (is_word_byte b || eqb b 46 || is_sign b && is_ascii_digit c)
    (list_all is_word_byte rest))

double_alone : (b c : ℕ) → is_double b c ≡ true → joins b c ≡ false
double_alone b c double = grind (arith, nat_tests)

-- two bytes and n more: a double where there are no more, and what joins where these are a word's
fits_so : (n b c : ℕ) (rest : List ℕ) → n ≤ length rest
    → may_be_token (b ∷ c ∷ take n rest) ≡ (eqb n 0 && is_double b c || joins b c && leb n (word_len rest))
fits_so zero b c rest within =
    let low : leb 0 (word_len rest) ≡ true = grind (arith, nat_tests) in
    rw (pair_is b c, goes_is b c [], low) refl
fits_so (suc n) b c [] within = absurd (omega arith)
fits_so (suc n) b c (d ∷ rest) within =
    let more : eqb (suc n) 0 ≡ false = grind (arith, nat_tests) in
    goes_is b c (d ∷ take n rest) ∙ rw (are_word (suc n) (d ∷ rest) within, more) refl

-- ---- the first token

module _ (b c : ℕ) (rest : List ℕ) (solid : is_solid b ≡ true) where
  none_longer : (count : ℕ) → 0 < count
      → ((n : ℕ) → count < n + 2 → (eqb n 0 && is_double b c || joins b c && leb n (word_len rest)) ≡ false)
      → (more : ℕ) → count < more → more ≤ length (b ∷ c ∷ rest) → may_be_token (take more (b ∷ c ∷ rest)) ≡ false
  none_longer count some none zero less most = absurd (omega arith)
  none_longer count some none (suc zero) less most = absurd (omega arith)
  none_longer count some none (suc (suc n)) less most = fits_so n b c rest (omega arith) ∙ none n (omega arith)

  pair_first : is_double b c ≡ true → IsLongestToken (b ∷ c ∷ rest) 2
  pair_first double =
      let alone = double_alone b c double in
      let parts = solid_parts b solid in
      record {
        within = omega arith;
        fits = fits_so 0 b c rest (omega arith) ∙ rw double refl;
        longest = none_longer 2 (omega arith) (λ n less. rw (double, alone) (grind (arith, nat_tests)));
        first = rw (parts.0, parts.1, double) refl;
      }

  word_first : joins b c ≡ true → IsLongestToken (b ∷ c ∷ rest) (suc (suc (word_len rest)))
  word_first joined =
      let single = joined_no_double b c joined in
      let within = prefix_len-le-length is_word_byte rest in
      let words : list_all is_word_byte (take (word_len rest) rest) ≡ true = are_word (word_len rest) rest within
      ∙ grind (arith, nat_tests) in
      record {
        within = omega (arith, within);
        fits = fits_so (word_len rest) b c rest within ∙ rw (single, joined) (grind (arith, nat_tests));
        longest = none_longer (suc (suc (word_len rest))) (omega arith)
            (λ n less. rw (single, joined) (grind (arith, nat_tests)));
        first = rw next at (joined_token (b ∷ c ∷ rest) (suc (word_len rest)) (omega arith) solid joined
            (rw (joined_word b c joined, words) refl) (word_ends rest));
      }

  byte_first : is_double b c ≡ false → joins b c ≡ false → IsLongestToken (b ∷ c ∷ rest) 1
  byte_first single alone = record {
    within = omega arith;
    fits = solid;
    longest = none_longer 1 (omega arith) (λ n less. rw (single, alone) (grind (arith, nat_tests)));
    first = tokens_alone b c rest solid single alone;
  }

longest_first : (line : List ℕ) → begins is_solid line ≡ true → (count : ℕ) × IsLongestToken line count
longest_first [] solid = absurd cc
longest_first (b ∷ []) solid = (
  1,
  record {
    within = omega arith;
    fits = solid;
    longest = λ more less most. absurd (omega arith);
    first =
        tokens_last b solid;
  },
)
longest_first (b ∷ c ∷ rest) solid = elim (cases_Bool (is_double b c)) [
  | inl double ↦ (2, pair_first b c rest solid double)
  | inr single ↦ elim (cases_Bool (joins b c)) [
    | inl joined ↦ (suc (suc (word_len rest)), word_first b c rest solid joined)
    | inr alone ↦ (1, byte_first b c rest solid single alone)
  ]
]

pub longest_tokens : (line : List ℕ) → HasLongestTokens line
longest_tokens line = record
    { token = longest_first line; blank = λ b blank. tokens_blank b line (grind (arith, nat_tests)) blank }

-- ---- behind a semicolon

pub tokens_before_comment : (line rest : List ℕ) → tokens (line ++ 59 ∷ rest) ≡ tokens line
tokens_before_comment (b ∷ c ∷ line) rest = rw (tokens_before_comment (c ∷ line) rest, tokens_before_comment line rest)
    refl
tokens_before_comment line rest = grind (arith, nat_tests, tokens_comment 59 rest)
