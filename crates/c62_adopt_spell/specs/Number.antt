-- Numbers and registers as assemblers spell them (docs/ADOPT.md, "Other spellings").
use Rattle.std.specs.Prelude.{ℕ, ℤ, pos, ◌+ℤ◌, ◌-ℤ◌, Bool, true, false, ◌==◌, ◌&&◌, ◌||◌, nat_le, int_le, if◌then◌else◌, List, [], ◌∷◌, length, map, codes, Option, Some, None, option_and_then, option_map}
use Rattle.std.specs.Option.{option_or}
use Rattle.std.specs.Str.Parse.{digits_value}
use Rattle.c62_token.specs.Kind.{Word}
use Rattle.c62_token.specs.Number.{are_digits, in_range, number_of, spells}

-- ---- sums

-- a sum or a difference, where it is a number
abbrev pub total : Bool → ℤ → ℤ → Option ℤ
total true m k = in_range (m -ℤ k)
total false m k = in_range (m +ℤ k)

-- ---- numbers

-- `0X` in place of `0x`
abbrev pub small_x : ℕ → ℕ
small_x b = if b == 88 then 120 else b

abbrev pub capital_of : Word → Option ℤ
capital_of word = if nat_le (length word) 11 then number_of (map small_x word) else None

-- `0b` and one to 32 digits
abbrev pub bits_of : Word → Option ℤ
bits_of [] = None
bits_of (d ∷ digits) =
    if nat_le (length digits) 31 && are_digits 2 (d ∷ digits) then Some (pos (digits_value 2 (d ∷ digits))) else None

abbrev pub binary_of : Word → Option ℤ
binary_of (d ∷ b ∷ digits) = if d == 48 && (b == 98 || b == 66) then bits_of digits else None
binary_of _ = None

-- the same behind one sign or none
abbrev pub signed_binary_of : Word → Option ℤ
signed_binary_of [] = None
signed_binary_of (b ∷ word) =
    if b == 45 then option_and_then (total true (pos 0)) (binary_of word)
    else (if b == 43 then binary_of word else binary_of (b ∷ word))

-- the number that a word says
abbrev pub written_of : Word → Option ℤ
written_of word = option_or (number_of word) (option_or (capital_of word) (signed_binary_of word))

-- a word of 32 bits as a number with a sign
abbrev pub with_sign : ℤ → ℤ
with_sign k = if int_le (pos 2147483648) k then k -ℤ pos 4294967296 else k

abbrev pub value_of : Word → Option ℤ
value_of word = option_map with_sign (written_of word)

-- SP, DP and FP are other names of B15, B14 and A15
abbrev pub plain_name : Word → Word
plain_name word =
    if spells (codes "SP") word then codes "B15"
    else (if spells (codes "DP") word then codes "B14"
    else (if spells (codes "FP") word then codes "A15" else word))
