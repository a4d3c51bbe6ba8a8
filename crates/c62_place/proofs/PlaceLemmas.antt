-- Where tokens stand in their line.
use Rattle.c62_token.proofs.Common.{◌≡◌, ℕ, zero, suc, ◌+◌, ◌<◌, ◌≤◌, true, false, eqb, List, [], ◌∷◌}
use Rattle.c62_token.proofs.Common.{length, get_or, take, drop, refl, sym, ap, ◌∙◌}
use Rattle.c62_token.proofs.Common.{arith, nat_tests, begins, is_blank, is_solid, tokens, inl, inr, cases_Bool}
use Rattle.std.proofs.Math.Seq.{drop-cons}
use Rattle.std.proofs.lemmas.List.{drop-drop, length-drop, length-take-le, nil_from_length}
use Rattle.std.specs.Prelude.{Some}
use Rattle.c62_token.specs.Laws.{may_be_token}
use Rattle.c62_token.proofs.TokenLaws.{longest_tokens}
use Rattle.c62_token.proofs.TokenLemmas.{tokens_blank, tokens_comment}
use Rattle.c62_place.specs.declared.place.Place.{Place}
use Rattle.c62_place.specs.Place.{IsFirstToken, IsToken}

no_comment : (b : ℕ) → is_blank b ≡ true → eqb b 59 ≡ false
no_comment b blank = grind (arith, nat_tests)

-- a blank is passed over
pub blank_past : (line : List ℕ) (i : ℕ) → i < length line → is_blank (get_or line i 0) ≡ true
    → tokens (drop (i + 1) line) ≡ tokens (drop i line)
blank_past line i within blank =
    let next : suc i ≡ i + 1 = omega arith in
    let here : drop i line ≡ get_or line i 0 ∷ drop (i + 1) line = rw next at (drop-cons line i 0 within) in
    rw here (sym (tokens_blank (get_or line i 0) (drop (i + 1) line) (no_comment _ blank) blank))

-- ---- the first token

pub first_is : (line word : List ℕ) (words : List (List ℕ)) → begins is_blank line ≡ false → tokens line ≡ word ∷ words
    → (length word ≤ length line) × (tokens line ≡ take (length word) line ∷ tokens (drop (length word) line))
    × (0 < length word)
first_is [] word words plain is = absurd cc
first_is (b ∷ line) word words plain is = elim (cases_Bool (eqb b 59)) [
  | inl comment ↦ let none = tokens_comment b line comment in absurd cc
  | inr text ↦
      let solid : is_solid b ≡ true = rw (text, plain) refl in
      let first = (longest_tokens (b ∷ line)).token solid in
      let long = first.1 in
      let same : word ≡ take first.0 (b ∷ line) = cc (is, long.first) in
      let count : length word ≡ first.0 = ap length same ∙ length-take-le first.0 (b ∷ line) long.within in
      let some : (n : ℕ) → n ≡ first.0 → 0 < n =
      λ n e. by_count n (b ∷ line) (rw (← e) at long.fits) in
      (rw count long.within, rw count long.first, some (length word) count)
]
  where
    by_count : (n : ℕ) (bytes : List ℕ) → may_be_token (take n bytes) ≡ true → 0 < n
    by_count zero bytes fits = absurd cc
    by_count (suc n) bytes fits = omega arith

pub first_place : (line word : List ℕ) (words : List (List ℕ)) (start : ℕ) → start ≤ length line
    → tokens (drop start line) ≡ tokens line
    → begins is_blank (drop start line) ≡ false → tokens (drop start line) ≡ word ∷ words
    → IsFirstToken line (Some (record { start = start; len = length word }))
first_place line word words start within same plain is =
    let first = first_is (drop start line) word words plain is in (
      omega (arith, within, first.0, length-drop start line),
      sym same ∙ first.1 ∙ rw (drop-drop (length word) start line) refl,
      same,
      first.2,
    )

-- ---- a token behind others

none_left : (n : ℕ) (words : List (List ℕ)) → drop n words ≡ [] → length words ≤ n
none_left n words none = omega (arith, length-drop n words, ap length none)

all_passed : (n : ℕ) (words : List (List ℕ)) → length words ≤ n → drop n words ≡ []
all_passed n words passed = nil_from_length (drop n words) (length-drop n words ∙ omega (arith, passed))

module _ (line : List ℕ) (before start : ℕ) (place : Place) (within : start ≤ length line)
    (first : IsFirstToken (drop start line) (Some place)) where
  pub token_found : tokens (drop start line) ≡ drop before (tokens line)
      → IsToken line before (record { start = start + place.start; len = place.len })
  token_found there =
      let at : drop place.start (drop start line) ≡ drop (start + place.start) line = drop-drop place.start start line
      in
      let here = sym there ∙ first.1 in
      record {
        within = omega (arith, within, first.0, length-drop start line);
        there = λ some. rw (here, at) refl;
        left = ap tokens (sym at) ∙ first.2 ∙ there;
        none = λ passed. let none = all_passed before (tokens line) passed in absurd cc;
      }

  pub token_next : (passed : ℕ) → tokens (drop start line) ≡ drop passed (tokens line)
      → tokens (drop (start + (place.start + place.len)) line) ≡ drop (passed + 1) (tokens line)
  token_next passed there =
      let here = sym there ∙ first.1 in
      let next : drop 1 (drop passed (tokens line)) ≡ drop (passed + 1) (tokens line) = drop-drop 1 passed (tokens line)
      in
      let tail : tokens (drop (place.start + place.len) (drop start line)) ≡ drop 1 (drop passed (tokens line)) = rw
      here refl in
      rw (drop-drop (place.start + place.len) start line) at (tail ∙ next)

pub token_none : (line : List ℕ) (before passed start : ℕ) → passed ≤ before → start ≤ length line
    → tokens (drop start line) ≡ []
    → tokens (drop start line) ≡ drop passed (tokens line) → IsToken line before (record { start = start; len = 0 })
token_none line before passed start few within none there =
    let all = none_left passed (tokens line) (sym there ∙ none) in
    record {
      within = omega (arith, within);
      there = λ some. absurd (omega (arith, some, all, few));
      left = none ∙ sym (all_passed before (tokens line) (omega (arith, all, few)));
      none = λ passed. refl;
    }
