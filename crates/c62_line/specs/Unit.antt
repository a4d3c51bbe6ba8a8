-- Units as they are written.
use Rattle.std.specs.Prelude.{ℕ, Bool, true, false, not, ◌==◌, ◌&&◌, ◌||◌, List, [], ◌∷◌, Option, Some, None, option_map, if◌then◌else◌}
use Rattle.std.specs.Char.{is_ascii_digit}
use Rattle.c62_op.specs.declared.register.Side.{Side}
use Rattle.c62_op.specs.declared.register.Side.TheVariants.{A, B}
use Rattle.c62_op.specs.declared.register.Letter.{Letter}
use Rattle.c62_op.specs.declared.register.Letter.TheVariants.{L, S, M, D}
use Rattle.c62_op.specs.Takes.{same_letter}
use Rattle.c62_op.specs.Shape.{is_load, is_store}
use Rattle.c62_line.specs.declared.mnemonic.Mnemonic.{Mnemonic}
use Rattle.c62_line.specs.declared.mnemonic.Mnemonic.TheVariants.{Operation}
use Rattle.c62_line.specs.declared.unit.Mark.{Mark}
use Rattle.c62_line.specs.declared.unit.Mark.TheVariants.{Plain, Cross, Path}
use Rattle.c62_line.specs.declared.unit.WrittenUnit.{WrittenUnit}
use Rattle.c62_line.specs.Mnemonic.{stands_on}
use Rattle.c62_token.specs.Token.{begins, put_back}

unfoldable pub letter_of : ℕ → Option Letter
letter_of b =
    if b == 76 || b == 108 then Some L
    else (if b == 83 || b == 115 then Some S
    else (if b == 77 || b == 109 then Some M
    else (if b == 68 || b == 100 then Some D
    else None)))

unfoldable pub side_numbered : ℕ → Option Side
side_numbered b = if b == 49 then Some A else (if b == 50 then Some B else None)

-- `x` and `t` in either case
abbrev pub is_x : ℕ → Bool
is_x b = b == 88 || b == 120

abbrev pub is_t : ℕ → Bool
is_t b = b == 84 || b == 116

-- `X`, or `T` and a digit, or nothing; and what is left behind it. No data path but 1 and 2 has a mark.
unfoldable pub mark_of : List ℕ → Option Mark × List ℕ
mark_of [] = (Some Plain, [])
mark_of (b ∷ []) = if is_x b then (Some Cross, []) else (Some Plain, b ∷ [])
mark_of (b ∷ c ∷ rest) =
    if is_x b then (Some Cross, c ∷ rest)
    else (if is_t b && is_ascii_digit c then (option_map Path (side_numbered c), rest)
    else (Some Plain, b ∷ c ∷ rest))

abbrev pub unit_of : Option Letter → Option Side → Option Mark × List ℕ → Option (WrittenUnit × List ℕ)
unit_of (Some letter) (Some side) (Some mark, left) = Some (record { unit = record { letter = letter; side = side }; mark = mark }, left)
unit_of _ _ _ = None

-- the unit that these bytes begin with, and what is left behind it
unfoldable pub unit_split : List ℕ → Option (WrittenUnit × List ℕ)
unit_split (dot ∷ letter ∷ number ∷ rest) = unit_of (letter_of letter) (side_numbered number) (mark_of rest)
unit_split _ = None

abbrev pub is_dot : ℕ → Bool
is_dot b = b == 46

abbrev pub with_left : List (List ℕ) → WrittenUnit × List ℕ → Option WrittenUnit × List (List ℕ)
with_left rest (unit, left) = (Some unit, put_back left rest)

-- The unit behind a mnemonic, where one is written, and the tokens behind it: the unit's token ends where its spelling
-- ends. There is no answer where a dot begins no unit.
unfoldable pub unit_front : List (List ℕ) → Option (Option WrittenUnit × List (List ℕ))
unit_front [] = Some (None, [])
unit_front (word ∷ rest) =
    if begins is_dot word then option_map (with_left rest) (unit_split word)
    else Some (None, word ∷ rest)

-- whether a mark goes with the letter of its unit: X with all but D, T with D on a load or store
abbrev pub is_access : Mnemonic → Bool
is_access (Operation op) = is_load op || is_store op
is_access _ = false

abbrev pub mark_fits : Mnemonic → Letter → Mark → Bool
mark_fits mnemonic letter Plain = true
mark_fits mnemonic letter Cross = not (same_letter letter D)
mark_fits mnemonic letter (Path side) = same_letter letter D && is_access mnemonic

-- whether the unit may be written behind the mnemonic
unfoldable pub unit_fits : Mnemonic → WrittenUnit → Bool
unit_fits mnemonic written = stands_on mnemonic written.unit.letter && mark_fits mnemonic written.unit.letter written.mark
