-- What a word says as a number, as a register or as a label.
use Rattle.std.specs.Prelude.{ℕ, ◌-◌, ◌≡◌, refl, ℤ, pos, neg_ℤ, int_le, Bool, true, false, not, ◌==◌, ◌&&◌, ◌||◌, nat_le, nat_lt, List, [], ◌∷◌}
use Rattle.std.specs.Prelude.{length, map, drop, Option, Some, None, is_some, option_map, option_and_then, nat_eq, get_or, take, codes, if◌then◌else◌}
use Rattle.std.specs.List.{list_all, starts_with}
use Rattle.std.specs.Char.{digit_value, to_ascii_lowercase, is_ascii_digit}
use Rattle.std.specs.Str.{bytes_eq}
use Rattle.std.specs.Str.Parse.{digits_value}
use Rattle.std.proofs.lemmas.Bool.{ltb-true}
use Rattle.c62_op.specs.declared.register.Side.{Side}
use Rattle.c62_op.specs.declared.register.Side.TheVariants.{A, B}
use Rattle.c62_op.specs.declared.register.Reg.{Reg}
use Rattle.c62_token.specs.Token.{begins, is_word_byte}

-- the word is this name, in either case
abbrev pub spells : List ℕ → List ℕ → Bool
spells name word = bytes_eq (map to_ascii_lowercase word) (map to_ascii_lowercase name)

-- ---- numbers

abbrev pub are_digits : ℕ → List ℕ → Bool
are_digits radix ds = list_all (λ d. nat_lt (digit_value d) radix) ds

-- at most ten digits, without a leading zero but for 0 itself
unfoldable pub decimal_of : List ℕ → Option ℕ
decimal_of [] = None
decimal_of (d ∷ ds) =
    if nat_le (length ds) 9 && (nat_lt 48 d || length ds == 0) && are_digits 10 (d ∷ ds) then Some (digits_value 10 (d ∷ ds))
    else None

-- one to eight digits in either case
unfoldable pub hexadecimal_of : List ℕ → Option ℕ
hexadecimal_of [] = None
hexadecimal_of (d ∷ ds) =
    if nat_le (length ds) 7 && are_digits 16 (d ∷ ds) then Some (digits_value 16 (d ∷ ds))
    else None

unfoldable pub magnitude_of : List ℕ → Option ℕ
magnitude_of word = if starts_with nat_eq word (codes "0x") then hexadecimal_of (drop 2 word) else decimal_of word

abbrev pub negative : ℕ → ℤ
negative n = neg_ℤ (pos n)

-- a magnitude, behind one sign or none
unfoldable pub signed_of : List ℕ → Option ℤ
signed_of [] = None
signed_of (b ∷ ds) =
    if b == 45 then option_map negative (magnitude_of ds)
    else (if b == 43 then option_map pos (magnitude_of ds)
    else option_map pos (magnitude_of (b ∷ ds)))

-- from -2^31 to 2^32 - 1
abbrev pub in_range : ℤ → Option ℤ
in_range z = if int_le (negative 2147483648) z && int_le z (pos 4294967295) then Some z else None

unfoldable pub number_of : List ℕ → Option ℤ
number_of word = option_and_then in_range (signed_of word)

-- ---- registers

-- the register of this number in a file, where the file has one
abbrev pub numbered_if : Side → (n : ℕ) → (b : Bool) → nat_lt n 16 ≡ b → Option Reg
numbered_if side n true small = Some (record { side = side; number = n; in_range = ltb-true n 16 small })
numbered_if side n false large = None

unfoldable pub numbered : Side → ℕ → Option Reg
numbered side n = numbered_if side n (nat_lt n 16) refl

-- the file that a letter names, in either case
unfoldable pub file_of : ℕ → Option Side
file_of b = if b == 65 || b == 97 then Some A else (if b == 66 || b == 98 then Some B else None)

abbrev pub in_file : Option Side → ℕ → Option Reg
in_file None n = None
in_file (Some side) n = numbered side n

-- a letter and a number from 0 to 15 without leading zeros
unfoldable pub register_of : List ℕ → Option Reg
register_of [] = None
register_of (letter ∷ []) = None
register_of (letter ∷ d ∷ []) = if is_ascii_digit d then in_file (file_of letter) (d - 48) else None
register_of (letter ∷ ten ∷ d ∷ []) = if ten == 49 && is_ascii_digit d then in_file (file_of letter) (d - 38) else None
register_of (letter ∷ ten ∷ d ∷ e ∷ rest) = None

-- the pointers SP, DP and FP, which are other names of B15, B14 and A15
unfoldable pub pointer_of : List ℕ → Option Reg
pointer_of word =
    if spells (codes "SP") word then numbered B 15
    else (if spells (codes "DP") word then numbered B 14
    else (if spells (codes "FP") word then numbered A 15
    else None))

-- one to eight hexadecimal digits and an `h`, of which the first is a decimal one
abbrev pub ends_in_h : List ℕ → Bool
ends_in_h word = to_ascii_lowercase (get_or word (length word - 1) 0) == 104

-- the digits behind a 0 in front, which a letter needs and which counts for nothing, where others follow it
abbrev pub behind_zero : List ℕ → List ℕ
behind_zero (b ∷ d ∷ ds) = if b == 48 then d ∷ ds else b ∷ d ∷ ds
behind_zero digits = digits

unfoldable pub suffixed_magnitude : List ℕ → Option ℕ
suffixed_magnitude word =
    if begins is_ascii_digit word && ends_in_h word then hexadecimal_of (behind_zero (take (length word - 1) word)) else None

-- such a magnitude, behind one sign or none
unfoldable pub signed_suffixed : List ℕ → Option ℤ
signed_suffixed [] = None
signed_suffixed (b ∷ ds) =
    if b == 45 then option_map negative (suffixed_magnitude ds)
    else (if b == 43 then option_map pos (suffixed_magnitude ds)
    else option_map pos (suffixed_magnitude (b ∷ ds)))

unfoldable pub suffixed_of : List ℕ → Option ℤ
suffixed_of word = option_and_then in_range (signed_suffixed word)

-- ---- labels

-- a word of at most 32 letters, digits, `_` and `$` that doesn't begin with a digit and spells no register
unfoldable pub is_label : List ℕ → Bool
is_label word =
    begins (λ b. not (is_ascii_digit b)) word && list_all is_word_byte word && nat_le (length word) 32 && not (is_some (register_of word))
