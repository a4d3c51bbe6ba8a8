-- Numbers and words in their columns.
use Rattle.std.specs.Prelude.{ℕ, ◌-◌, ◌==◌, List, [], ◌++◌, length, replicate, codes, decimal, if◌then◌else◌}
use Rattle.std.specs.Str.{trim_end}
use Rattle.c62_op.specs.declared.register.Unit.{Unit as FunctionalUnit}
use Rattle.c62_insn.specs.Spelling.{unit_letter, side_digit}

abbrev pub spaces : ℕ → List ℕ
spaces count = replicate count 32

-- a word at the left or at the right of so many columns
unfoldable pub left : ℕ → List ℕ → List ℕ
left width word = word ++ spaces (width - length word)

unfoldable pub right : ℕ → List ℕ → List ℕ
right width word = spaces (width - length word) ++ word

-- `1 cycle`, `2 cycles`
unfoldable pub counted : ℕ → List ℕ → List ℕ
counted count one = decimal count ++ codes " " ++ one ++ (if count == 1 then [] else codes "s")

-- a line ends with no space
unfoldable pub line : List ℕ → List ℕ
line text = trim_end text ++ codes "\n"

-- `.L1`
abbrev pub unit_name : FunctionalUnit → List ℕ
unit_name unit = codes "." ++ unit_letter unit.letter ++ side_digit unit.side
