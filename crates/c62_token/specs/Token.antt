-- The tokens of a line.
use Rattle.std.specs.Prelude.{◌≡◌, Option, Some, None, ℕ, Bool, false, not, ◌==◌, ◌&&◌, ◌||◌, nat_le, nat_lt, List, [], ◌∷◌, if◌then◌else◌}
use Rattle.std.specs.Borrow.{Bor}
use Rattle.c62_token.specs.declared.token.Tokens.{Tokens}
use Rattle.std.specs.Char.{is_ascii_digit, is_ascii_alphanumeric}

-- b stands before these pieces and belongs to the first of them
abbrev pub grow : ℕ → List (List ℕ) → List (List ℕ)
grow b [] = (b ∷ []) ∷ []
grow b (piece ∷ pieces) = (b ∷ piece) ∷ pieces

-- what is left of a piece goes back in front of the others
abbrev pub put_back : List ℕ → List (List ℕ) → List (List ℕ)
put_back [] pieces = pieces
put_back (b ∷ left) pieces = (b ∷ left) ∷ pieces

-- a test of the first byte
abbrev pub begins : (ℕ → Bool) → List ℕ → Bool
begins test [] = false
begins test (b ∷ rest) = test b

-- printable ASCII and the tab
abbrev pub is_allowed : ℕ → Bool
is_allowed b = b == 9 || nat_le 32 b && nat_lt b 127

abbrev pub is_blank : ℕ → Bool
is_blank b = b == 32 || b == 9

-- what a token may begin with: neither the `;` of a comment nor a blank
abbrev pub is_solid : ℕ → Bool
is_solid b = not (b == 59) && not (is_blank b)

-- letters, digits, `_` and `$`
abbrev pub is_word_byte : ℕ → Bool
is_word_byte b = is_ascii_alphanumeric b || b == 95 || b == 36

abbrev pub is_sign : ℕ → Bool
is_sign b = b == 43 || b == 45

-- `++`, `--` and `||`
abbrev pub is_double : ℕ → ℕ → Bool
is_double b c = b == c && (is_sign b || b == 124)

-- Two other neighbours are of one token within a word, where a sign stands before a digit, and where a dot stands before a word.
abbrev pub joins : ℕ → ℕ → Bool
joins b c =
    is_word_byte b && is_word_byte c
    || is_sign b && is_ascii_digit c
    || b == 46 && is_word_byte c

-- The tokens of a line, each the longest that fits: blanks part them, and a `;` ends the line.
abbrev pub tokens : List ℕ → List (List ℕ)
tokens [] = []
tokens (b ∷ []) = if is_solid b then (b ∷ []) ∷ [] else []
tokens (b ∷ c ∷ rest) =
    if b == 59 then []
    else (if is_blank b then tokens (c ∷ rest)
    else (if is_double b c then (b ∷ c ∷ []) ∷ tokens rest
    else (if joins b c then grow b (tokens (c ∷ rest))
    else (b ∷ []) ∷ tokens (c ∷ rest))))

abbrev pub led_by : List ℕ → List (List ℕ) → List (List ℕ)
led_by [] others = []
led_by (b ∷ first) others = (b ∷ first) ∷ others

-- the tokens that are left of a line
unfoldable pub words_left : Tokens → List (List ℕ)
words_left line = led_by line.first.now (tokens line.rest.now)

-- what a line is cut into: its first token and the others, where it has one
abbrev pub IsCutOff : Option (Bor (List ℕ) × Tokens) → List (List ℕ) → Type 0
IsCutOff None words = words ≡ []
IsCutOff (Some found) words = words ≡ found.0.now ∷ words_left found.1

-- the first token of these, where there is one, before what the rest of the line has
abbrev pub IsFirst : Option (Bor (List ℕ)) → List ℕ → List (List ℕ) → Type 0
IsFirst None rest words = words ≡ []
IsFirst (Some first) rest words = words ≡ first.now ∷ tokens rest
