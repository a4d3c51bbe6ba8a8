-- Laws of tokens: how they lie in their line, and what is spelled reads back.
use Rattle.std.specs.Prelude.{◌≡◌, ℕ, ◌≤◌, ◌<◌, Bool, true, false, ◌&&◌, ◌||◌, ℤ, pos, ◌≤ℤ◌, List, [], ◌∷◌, length}
use Rattle.std.specs.Prelude.{filter, take_while, not, ◌==◌, take, drop, Some, IsTrue}
use Rattle.std.specs.Char.{is_ascii_digit}
use Rattle.std.specs.Fmt.{signed_decimal}
use Rattle.std.specs.List.{flat_map, list_all}
use Rattle.c62_op.specs.declared.register.Reg.{Reg}
use Rattle.c62_op.specs.Name.{register_name}
use Rattle.c62_token.specs.Token.{begins, is_blank, is_sign, is_solid, is_word_byte, tokens}
use Rattle.c62_token.specs.Number.{negative, number_of, register_of}

-- the tokens of a line are its bytes in their order, less blanks and what follows a `;`
abbrev pub TokensAreTheBytes : List ℕ → Type 0
TokensAreTheBytes line =
    flat_map (λ token. token) (tokens line) ≡ filter (λ b. not (is_blank b)) (take_while (λ b. not (b == 59)) line)

-- behind a first byte: the rest of a word, of a word behind a dot, or of a number behind its sign
abbrev pub goes_on : ℕ → List ℕ → Bool
goes_on b rest = list_all is_word_byte rest && (is_word_byte b || b == 46 || is_sign b && begins is_ascii_digit rest)

-- `++`, `--` and `||`
abbrev pub is_pair : ℕ → ℕ → Bool
is_pair b c = b == 43 && c == 43 || b == 45 && c == 45 || b == 124 && c == 124

-- what may be a token: a word, a dot and a word, a sign and a number, one of these pairs, or another byte alone
abbrev pub may_be_token : List ℕ → Bool
may_be_token [] = false
may_be_token (b ∷ []) = is_solid b
may_be_token (b ∷ c ∷ []) = is_pair b c || goes_on b (c ∷ [])
may_be_token (b ∷ c ∷ d ∷ rest) = goes_on b (c ∷ d ∷ rest)

-- the first so many bytes of a line are a token, no more of them may be one, and the other tokens are those of the rest
pub record IsLongestToken (line : List ℕ) (count : ℕ) : Type 0 where
  pub within : count ≤ length line
  pub fits : may_be_token (take count line) ≡ true
  pub longest : (more : ℕ) → count < more → more ≤ length line → may_be_token (take more line) ≡ false
  pub first : tokens line ≡ take count line ∷ tokens (drop count line)

-- a line that begins with neither a blank nor a comment begins with a token, the longest that fits; a blank is passed over
pub record HasLongestTokens (line : List ℕ) : Type 0 where
  pub token : IsTrue (begins is_solid line) → (count : ℕ) × IsLongestToken line count
  pub blank : (b : ℕ) → IsTrue (is_blank b) → tokens (b ∷ line) ≡ tokens line

-- the decimal spelling of a number reads as it
abbrev pub NumberReadsBack : ℤ → Type 0
NumberReadsBack k = negative 2147483648 ≤ℤ k → k ≤ℤ pos 4294967295 → number_of (signed_decimal k) ≡ Some k

-- the name of a register reads as it
abbrev pub RegisterReadsBack : Reg → Type 0
RegisterReadsBack reg = register_of (register_name reg) ≡ Some reg
