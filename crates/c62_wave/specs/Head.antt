-- What stands in a dump before its first time (docs/WAVE.md, "Signals").
use Rattle.std.specs.Prelude.{ℕ, ◌+◌, List, [], ◌∷◌, ◌++◌, map, codes}
use Rattle.c62_op.specs.declared.register.Side.{Side}
use Rattle.c62_op.specs.declared.register.Side.TheVariants.{A, B}
use Rattle.c62_op.specs.declared.register.Unit.{Unit as FunctionalUnit}
use Rattle.c62_op.specs.Name.{file_letter}
use Rattle.c62_op.specs.Units.{all_units}
use Rattle.c62_insn.specs.Spelling.{unit_letter, side_digit}

-- `$var wire 32 & line $end`
abbrev pub variable : (width : List ℕ) → (code : ℕ) → (name : List ℕ) → List ℕ
variable width code name =
    codes "$var wire " ++ width ++ codes " " ++ code ∷ codes " " ++ name ++ codes " $end\n"

-- signals of one width, whose codes follow on each other
abbrev pub variables : (width : List ℕ) → (code : ℕ) → List (List ℕ) → List ℕ
variables width code [] = []
variables width code (name ∷ names) = variable width code name ++ variables width (code + 1) names

-- `L1`
abbrev pub unit_name : FunctionalUnit → List ℕ
unit_name unit = unit_letter unit.letter ++ side_digit unit.side

abbrev pub numbers : List (List ℕ)
numbers =
    codes "0" ∷ codes "1" ∷ codes "2" ∷ codes "3" ∷ codes "4" ∷ codes "5" ∷ codes "6" ∷ codes "7"
    ∷ codes "8" ∷ codes "9" ∷ codes "10" ∷ codes "11" ∷ codes "12" ∷ codes "13" ∷ codes "14" ∷ codes "15" ∷ []

-- `A0` to `A15`
abbrev pub file_names : Side → List (List ℕ)
file_names side = map (λ number. file_letter side ++ number) numbers

unfoldable pub head : List ℕ
head =
    codes "$version c62 $end\n" ++ codes "$timescale 1ns $end\n" ++ codes "$scope module c62 $end\n"
    ++ variable (codes "1") 33 (codes "clock")
    ++ variables (codes "32") 38 (codes "line" ∷ codes "packet" ∷ [])
    ++ variables (codes "32") 40 (map unit_name all_units)
    ++ variables (codes "16") 48 (codes "writes" ∷ codes "loads" ∷ codes "branches" ∷ [])
    ++ variables (codes "32") 51 (file_names A ++ file_names B)
    ++ variables (codes "32") 83 (codes "store_address" ∷ codes "store_data" ∷ [])
    ++ codes "$upscope $end\n" ++ codes "$enddefinitions $end\n"
