-- The tokens of a line in small letters, but for an `X` behind a 0, are its tokens so, and are the same numbers,
-- registers and marks.
use Rattle.c62_token.proofs.Common.{◌≡◌, ℕ, ◌+◌, ◌*◌, Bool, true, false, not, cond, eqb, ltb, ◌&&◌, ◌||◌, List, [], ◌∷◌}
use Rattle.c62_token.proofs.Common.{length, refl, ◌∙◌}
use Rattle.c62_token.proofs.Common.{arith, map, digit_value, to_ascii_lowercase, is_ascii_digit, list_all, nat_tests}
use Rattle.c62_token.proofs.Common.{begins, is_sign}
use Rattle.c62_token.proofs.Common.{is_word_byte, is_double, joins, spells, grow, is_blank, is_solid, tokens, Word}
use Rattle.c62_token.proofs.Common.{kinds_of, ◌<◌, ◌≤◌}
use Rattle.std.specs.Str.Parse.{digits_value_after}
use Rattle.std.proofs.lemmas.Bool.{agree_below, agree_below_at}
use Rattle.c62_token.specs.Number.{decimal_of, file_of, hexadecimal_of, is_label, magnitude_of, number_of, register_of}
use Rattle.c62_token.specs.Number.{signed_of, pointer_of, behind_zero, suffixed_magnitude, signed_suffixed, suffixed_of}
use Rattle.c62_token.proofs.Common.{get_or, take, suc, zero as nought, ◌-◌}
use Rattle.c62_token.specs.Kind.{kind_of, mark_of as written_mark, single_mark}
use Rattle.c62_token.proofs.TokenLemmas.{by_test, on_test}

-- ---- bytes

-- a small letter, but for an `X` behind a 0
unfoldable pub low_byte : Bool → ℕ → ℕ
low_byte zero b = cond (zero && eqb b 88) b (to_ascii_lowercase b)

-- what is the same for each capital and its small letter
pub byte_low : {A : Type 0} (f : ℕ → A) → ((b : ℕ) → 65 ≤ b → b < 91 → f (b + 32) ≡ f b) → (zero : Bool) (b : ℕ)
    → f (low_byte zero b) ≡ f b
unfolding low_byte
byte_low f small zero b = grind (arith, nat_tests, small b)

-- a test that answers the same for each capital and its small letter
pub test_low : (test : ℕ → Bool) → agree_below (λ c. test (to_ascii_lowercase c)) test 91 ≡ true → (zero : Bool) (b : ℕ)
    → test (low_byte zero b) ≡ test b
test_low test all = byte_low test
    (λ b high less. grind (arith, nat_tests, agree_below_at (λ c. test (to_ascii_lowercase c)) test 91 b all less))

value_low : (zero : Bool) (b : ℕ) → digit_value (low_byte zero b) ≡ digit_value b
value_low = byte_low digit_value (λ b high less. grind (arith, nat_tests))

joins_low : (y z : Bool) (b c : ℕ) → joins (low_byte y b) (low_byte z c) ≡ joins b c
joins_low y z b c = grind (
  arith,
  test_low is_word_byte refl,
  test_low is_sign refl,
  test_low is_ascii_digit refl,
  test_low
      (λ x. eqb x 46) refl,
)

double_low : (y z : Bool) (b c : ℕ) → is_double (low_byte y b) (low_byte z c) ≡ is_double b c
unfolding low_byte
double_low y z b c = rw (test_low (λ x. is_sign x || eqb x 124) refl y b) (grind (arith, nat_tests))

-- ---- words

-- a line, or a word, behind a 0 or behind another byte
abbrev pub lowered : Bool → List ℕ → List ℕ
lowered zero [] = []
lowered zero (b ∷ w) = low_byte zero b ∷ lowered (eqb b 48) w

abbrev pub low : List ℕ → List ℕ
low w = lowered false w

pub small_low : (zero : Bool) (w : List ℕ) → map to_ascii_lowercase (lowered zero w) ≡ map to_ascii_lowercase w
small_low zero [] = refl
small_low zero (b ∷ w) = rw
    (byte_low to_ascii_lowercase (λ b high less. grind (arith, nat_tests)) zero b, small_low (eqb b 48) w) refl

pub spells_low : (name w : List ℕ) → spells name (low w) ≡ spells name w
spells_low name w = rw (small_low false w)

pub length_low : (zero : Bool) (w : List ℕ) → length (lowered zero w) ≡ length w
length_low zero [] = refl
length_low zero (b ∷ w) = rw (length_low (eqb b 48) w) refl

pub all_low : (test : ℕ → Bool) → agree_below (λ c. test (to_ascii_lowercase c)) test 91 ≡ true
    → (zero : Bool) (w : List ℕ)
    → list_all test (lowered zero w) ≡ list_all test w
all_low test all zero [] = refl
all_low test all zero (b ∷ w) = rw (test_low test all zero b, all_low test all (eqb b 48) w) refl

pub begins_low : (test : ℕ → Bool) → agree_below (λ c. test (to_ascii_lowercase c)) test 91 ≡ true → (w : List ℕ)
    → begins test (low w) ≡ begins test w
begins_low test all w = grind (arith, test_low test all)

-- ---- registers

register_low : (w : List ℕ) → register_of (low w) ≡ register_of w
unfolding register_of file_of low_byte
register_low (l ∷ t ∷ d ∷ []) = rw (byte_low file_of (λ b high less. grind (arith, nat_tests)) false l)
    (grind (arith, nat_tests))
register_low w = grind (arith, nat_tests)

-- ---- numbers

after_low : (radix n : ℕ) (zero : Bool) (w : List ℕ)
    → digits_value_after radix n (lowered zero w) ≡ digits_value_after radix n w
after_low radix n zero [] = refl
after_low radix n zero (b ∷ w) = rw
    (after_low radix (n * radix + digit_value (low_byte zero b)) (eqb b 48) w, value_low zero b) refl

hexadecimal_low : (zero : Bool) (w : List ℕ) → hexadecimal_of (lowered zero w) ≡ hexadecimal_of w
unfolding hexadecimal_of
hexadecimal_low zero w = grind
    (arith, length_low, all_low (λ d. ltb (digit_value d) 16) refl zero w, after_low 16 0 zero w)

decimal_low : (zero : Bool) (w : List ℕ) → decimal_of (lowered zero w) ≡ decimal_of w
unfolding decimal_of
decimal_low zero w =
    grind (
      arith,
      length_low,
      after_low 10 0 zero w,
      all_low (λ d. ltb (digit_value d) 10) refl zero w,
      test_low
          (λ x. ltb 48 x) refl,
    )

number_low : (w : List ℕ) → number_of (low w) ≡ number_of w
unfolding number_of signed_of magnitude_of low_byte
number_low w = grind (arith, nat_tests, hexadecimal_low, decimal_low)

-- ---- other spellings

pointer_low : (w : List ℕ) → pointer_of (low w) ≡ pointer_of w
unfolding pointer_of
pointer_low w = simp spells_low

at_low : (zero : Bool) (w : List ℕ) (i : ℕ)
    → to_ascii_lowercase (get_or (lowered zero w) i 0) ≡ to_ascii_lowercase (get_or w i 0)
at_low zero [] i = refl
at_low zero (b ∷ w) nought = byte_low to_ascii_lowercase (λ b high less. grind (arith, nat_tests)) zero b
at_low zero (b ∷ w) (suc i) = at_low (eqb b 48) w i

take_low : (n : ℕ) (zero : Bool) (w : List ℕ) → take n (lowered zero w) ≡ lowered zero (take n w)
take_low nought zero w = refl
take_low (suc n) zero [] = refl
take_low (suc n) zero (b ∷ w) = rw (take_low n (eqb b 48) w) refl

digit_low : (zero : Bool) (w : List ℕ) → begins is_ascii_digit (lowered zero w) ≡ begins is_ascii_digit w
digit_low zero [] = refl
digit_low zero (b ∷ w) = test_low is_ascii_digit refl zero b

behind_low : (zero : Bool) (w : List ℕ)
    → hexadecimal_of (behind_zero (lowered zero w)) ≡ hexadecimal_of (behind_zero w)
behind_low zero [] = refl
behind_low zero (b ∷ []) = hexadecimal_low zero (b ∷ [])
behind_low zero (b ∷ d ∷ ds) = rw (test_low (λ x. eqb x 48) refl zero b) (by_first (eqb b 48))
  where
    by_first : (first : Bool)
        → hexadecimal_of (cond first (lowered (eqb b 48) (d ∷ ds)) (lowered zero (b ∷ d ∷ ds)))
        ≡ hexadecimal_of (cond first (d ∷ ds) (b ∷ d ∷ ds))
    by_first true = hexadecimal_low (eqb b 48) (d ∷ ds)
    by_first false = hexadecimal_low zero (b ∷ d ∷ ds)

suffixed_magnitude_low : (zero : Bool) (w : List ℕ) → suffixed_magnitude (lowered zero w) ≡ suffixed_magnitude w
unfolding suffixed_magnitude
suffixed_magnitude_low zero w =
    rw (
      digit_low zero w,
      length_low zero w,
      at_low zero w (length w - 1),
      take_low (length w - 1) zero w,
      behind_low zero (take (length w - 1) w),
    ) refl

suffixed_low : (w : List ℕ) → suffixed_of (low w) ≡ suffixed_of w
unfolding suffixed_of signed_suffixed low_byte
suffixed_low w = grind (arith, nat_tests, suffixed_magnitude_low)

-- ---- labels

pub label_low : (w : List ℕ) → is_label (low w) ≡ is_label w
unfolding is_label
label_low w = simp (begins_low (λ b. not (is_ascii_digit b)) refl, all_low is_word_byte refl, length_low, register_low)

-- ---- tokens

abbrev pub lows : List Word → List Word
lows ws = map low ws

-- the first word may stand behind a 0
abbrev first_low : Bool → List Word → List Word
first_low zero [] = []
first_low zero (w ∷ ws) = lowered zero w ∷ lows ws

first_plain : (ws : List Word) → first_low false ws ≡ lows ws
first_plain ws = grind arith

grown : (zero : Bool) (b : ℕ) (ws : List Word)
    → grow (low_byte zero b) (first_low (eqb b 48) ws) ≡ first_low zero (grow b ws)
grown zero b ws = grind arith

-- an `X` is a byte of a word
in_word : (zero : Bool) (b : ℕ) → low_byte zero b ≡ low_byte (zero && is_word_byte b) b
unfolding low_byte
in_word zero b = grind (arith, nat_tests)

-- the tokens of a line, or of a word that goes on behind a 0
tokens_lowered : (zero : Bool) (line : List ℕ)
    → tokens (lowered zero line) ≡ first_low (zero && begins is_word_byte line) (tokens line)
tokens_lowered zero [] = refl
tokens_lowered zero (b ∷ []) = rw
    (test_low is_solid refl zero b, in_word zero b, on_test (first_low (zero && is_word_byte b))) refl
tokens_lowered zero (b ∷ c ∷ rest) =
    rw (in_word zero b)
    (simp (
      test_low (λ x. eqb x 59) refl,
      test_low is_blank refl,
      double_low,
      joins_low,
      on_test
          (first_low (zero && is_word_byte b)),
    )
    (rw (tokens_lowered (eqb b 48) (c ∷ rest), tokens_lowered (eqb c 48) rest)
    (by_test (eqb b 59) (λ comment. refl) (λ text. by_test (is_blank b) (λ blank. grind (arith, nat_tests))
    (λ dark. by_test (is_double b c) (λ double. grind (arith, nat_tests, first_plain))
    (λ single. by_test (joins b c) (λ joined. grind (arith, nat_tests, grown))
    (λ alone. grind (arith, nat_tests, first_plain))))))))

pub tokens_low : (line : List ℕ) → tokens (low line) ≡ lows (tokens line)
tokens_low line = tokens_lowered false line ∙ first_plain (tokens line)

-- ---- what tokens are

pub kinds_low : (ws : List Word) → kinds_of (lows ws) ≡ kinds_of ws
unfolding kind_of written_mark low_byte single_mark
kinds_low [] = refl
kinds_low (w ∷ ws) = grind (arith, nat_tests, register_low, number_low, pointer_low, suffixed_low, kinds_low ws)
