-- How the bytes of a token come together, and that the tokens of a line are its bytes.
use Rattle.c62_token.proofs.Common.{◌≡◌, ℕ, zero, suc, ◌+◌, ◌<◌, ◌≤◌, Bool, true, false, cond, eqb, ◌&&◌, List, [], ◌∷◌}
use Rattle.c62_token.proofs.Common.{◌++◌, length, get_or, take}
use Rattle.c62_token.proofs.Common.{drop, refl, sym, ap, ◌∙◌, arith, list_all, take-append-drop, and_parts, nat_tests}
use Rattle.c62_token.proofs.Common.{grow, put_back, begins}
use Rattle.c62_token.proofs.Common.{is_blank, is_solid, is_word_byte, is_double, joins, tokens, not, inl, inr, filter}
use Rattle.c62_token.proofs.Common.{flat_map, cases_Bool}
use Rattle.std.proofs.lemmas.Bool.{not-true}
use Rattle.std.specs.Prelude.{take_while}
use Rattle.std.proofs.lemmas.List.Sums.{take_while-cons}
use Rattle.c62_token.specs.Token.{led_by}

-- a function of what one test decides
pub on_test : {A B : Type 0} (f : A → B) (b : Bool) (x y : A) → f (cond b x y) ≡ cond b (f x) (f y)
on_test f true x y = refl
on_test f false x y = refl

pub either : {A : Type 0} (b : Bool) (x : A) → cond b x x ≡ x
either true x = refl
either false x = refl

-- the same where a test decides, by what it says
pub by_test : {A : Type 0} (b : Bool) {x y u v : A} → (b ≡ true → x ≡ u) → (b ≡ false → y ≡ v) → cond b x y ≡ cond b u v
by_test true first second = first refl
by_test false first second = second refl

pub word_solid : (c : ℕ) → is_word_byte c ≡ true → is_solid c ≡ true
word_solid c word = grind (arith, nat_tests)

pub joined_no_double : (b c : ℕ) → joins b c ≡ true → is_double b c ≡ false
joined_no_double b c joined = grind (arith, nat_tests)

-- what joins is followed by a byte of a word
pub joined_word : (b c : ℕ) → joins b c ≡ true → is_word_byte c ≡ true
joined_word b c joined = grind (arith, nat_tests)

pub solid_parts : (b : ℕ) → is_solid b ≡ true → (eqb b 59 ≡ false) × (is_blank b ≡ false)
solid_parts b solid = let both = and_parts _ _ solid in (not-true _ both.0, not-true _ both.1)

pub tokens_joined : (b c : ℕ) (rest : List ℕ) → is_solid b ≡ true → joins b c ≡ true
    → tokens (b ∷ c ∷ rest) ≡ grow b (tokens (c ∷ rest))
tokens_joined b c rest solid joined =
    let parts = solid_parts b solid in
    rw (parts.0, parts.1, joined_no_double b c joined, joined) refl

pub tokens_alone : (b c : ℕ) (rest : List ℕ) → is_solid b ≡ true → is_double b c ≡ false → joins b c ≡ false
    → tokens (b ∷ c ∷ rest) ≡ (b ∷ []) ∷ tokens (c ∷ rest)
tokens_alone b c rest solid single alone = let parts = solid_parts b solid in rw (parts.0, parts.1, single, alone) refl

pub tokens_last : (b : ℕ) → is_solid b ≡ true → tokens (b ∷ []) ≡ (b ∷ []) ∷ []
tokens_last b solid = rw solid refl

-- a blank is no token's, and a comment has none
pub tokens_blank : (b : ℕ) (rest : List ℕ) → eqb b 59 ≡ false → is_blank b ≡ true → tokens (b ∷ rest) ≡ tokens rest
tokens_blank b rest text blank = grind (arith, nat_tests)

pub tokens_comment : (b : ℕ) (rest : List ℕ) → eqb b 59 ≡ true → tokens (b ∷ rest) ≡ []
tokens_comment b rest comment = grind (arith, nat_tests)

-- a word where no byte of a word follows
pub tokens_word : (w rest : List ℕ) → list_all is_word_byte w ≡ true → begins is_word_byte rest ≡ false
    → tokens (w ++ rest) ≡ put_back w (tokens rest)
tokens_word [] rest words ends = refl
tokens_word (b ∷ []) [] words ends = grind (arith, nat_tests)
tokens_word (b ∷ []) (c ∷ rest) words ends = grind (arith, nat_tests)
tokens_word (b ∷ c ∷ w) rest words ends =
    let first = and_parts (is_word_byte b) (is_word_byte c && list_all is_word_byte w) words in
    let second = and_parts (is_word_byte c) (list_all is_word_byte w) first.1 in
    let joined : joins b c ≡ true = rw (first.0, second.0) refl in
    tokens_joined b c (w ++ rest) (word_solid b first.0) joined ∙ ap (grow b) (tokens_word (c ∷ w) rest first.1 ends)

-- a first byte that joins a word
pub joined_token : (bytes : List ℕ) (n : ℕ) → 2 ≤ length bytes → begins is_solid bytes ≡ true
    → joins (get_or bytes 0 0) (get_or bytes 1 0) ≡ true
    → list_all is_word_byte (take n (drop 1 bytes)) ≡ true → begins is_word_byte (drop n (drop 1 bytes)) ≡ false
    → tokens bytes ≡ take (1 + n) bytes ∷ tokens (drop (1 + n) bytes)
joined_token [] n long solid joined words ends = absurd (omega arith)
joined_token (b ∷ []) n long solid joined words ends = absurd (omega arith)
joined_token (b ∷ c ∷ more) zero long solid joined words ends = let word = joined_word b c joined in absurd cc
joined_token (b ∷ c ∷ more) (suc n) long solid joined words ends =
    let one_more : 1 + suc n ≡ suc (suc n) = omega arith in
    let whole : (c ∷ take n more) ++ drop n more ≡ c ∷ more = ap (λ (bs : List ℕ). c ∷ bs) (take-append-drop n more) in
    rw one_more
    (tokens_joined b c more solid joined ∙ ap (λ (bs : List ℕ). grow b (tokens bs)) (sym whole)
    ∙ ap (grow b) (tokens_word (c ∷ take n more) (drop n more) words ends))

-- the tokens of what begins with a token, which is cut off
pub led_by_token : (bytes : List ℕ) (n : ℕ) → n ≤ length bytes → (0 < length bytes → 0 < n)
    → (0 < length bytes → tokens bytes ≡ take n bytes ∷ tokens (drop n bytes))
    → led_by (take n bytes) (tokens (drop n bytes)) ≡ tokens bytes
led_by_token [] n within some token = let none : n ≡ 0 = omega arith in rw none refl
led_by_token (b ∷ bytes) zero within some token = absurd (omega (arith, some (omega arith)))
led_by_token (b ∷ bytes) (suc n) within some token = sym (token (omega arith))

-- ---- the tokens of a line are its bytes

abbrev joined_bytes : List (List ℕ) → List ℕ
joined_bytes words = flat_map (λ t. t) words

abbrev kept : List ℕ → List ℕ
kept line = filter (λ b. not (is_blank b)) (take_while (λ b. not (eqb b 59)) line)

kept_more : (b : ℕ) (rest : List ℕ)
    → kept (b ∷ rest) ≡ cond (eqb b 59) [] (cond (is_blank b) (kept rest) (b ∷ kept rest))
kept_more b rest = rw (take_while-cons (λ (x : ℕ). not (eqb x 59)) b rest) (grind (arith, nat_tests))

grown : (b : ℕ) (words : List (List ℕ)) → joined_bytes (grow b words) ≡ b ∷ joined_bytes words
grown b words = grind arith

pub tokens_are_bytes : (line : List ℕ)
    → flat_map (λ t. t) (tokens line) ≡ filter (λ b. not (is_blank b)) (take_while (λ b. not (eqb b 59)) line)
tokens_are_bytes [] = refl
tokens_are_bytes (b ∷ []) = rw (kept_more b []) (grind (arith, nat_tests))
tokens_are_bytes (b ∷ c ∷ rest) =
    rw (
      kept_more b (c ∷ rest),
      on_test joined_bytes,
      on_test joined_bytes,
      on_test joined_bytes,
      on_test joined_bytes,
      grown b (tokens (c ∷ rest)),
      tokens_are_bytes (c ∷ rest),
    ) (elim (cases_Bool (is_double b c)) [
      | inl double ↦
          let plain : (eqb c 59 ≡ false) × (is_blank c ≡ false) = grind (arith, nat_tests) in
          rw (double, tokens_are_bytes rest, kept_more c rest, plain.0, plain.1) refl
      | inr single ↦ rw (single, either (joins b c)) refl
    ])
