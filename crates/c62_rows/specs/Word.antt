-- Labels as words: MVKL and MVKH of a label (docs/EXEC.md, "Labels as words").
use Rattle.std.specs.Prelude.{ℕ, ◌-◌, ℤ, pos, Bool, true, false, ◌==◌, ◌&&◌, ◌||◌, if◌then◌else◌, List, [], ◌∷◌, ◌++◌, length, map, take, drop, codes}
use Rattle.std.specs.Prelude.{Option, Some, None, unwrap_or, Result, Ok, Err}
use Rattle.std.specs.List.{position_or_len, suffix_len}
use Rattle.std.specs.Map.{lookup}
use Rattle.std.specs.Str.{bytes_eq}
use Rattle.c62_op.specs.declared.operands.Op.{Op}
use Rattle.c62_op.specs.declared.operands.Op.TheVariants.{Mvk, Mvklh}
use Rattle.c62_op.specs.declared.operands.Operands.{Operands}
use Rattle.c62_op.specs.declared.operands.Operands.TheVariants.{Constant}
use Rattle.c62_token.specs.Kind.{Word}
use Rattle.c62_token.specs.Number.{is_label, spells}
use Rattle.c62_token.specs.Token.{begins, is_blank, is_word_byte, tokens}
use Rattle.c62_line.specs.declared.fault.Cause.TheVariants.{BadOperand}
use Rattle.c62_line.specs.Line.{Parts}
use Rattle.c62_line.specs.Mnemonic.{signed_low_half, high_half}
use Rattle.c62_line.specs.Unit.{is_dot}
use Rattle.c62_read.specs.Program.{Name}
use Rattle.c62_adopt_line.specs.declared.fault.LineFault.{LineFault}
use Rattle.c62_adopt_line.specs.declared.fault.LineFault.TheVariants.{Read}
use Rattle.c62_adopt_line.specs.Line.{Line, line_says}
use Rattle.c62_flight.specs.Text.{address_of}
use Rattle.c62_op.specs.declared.set.InstructionSet.{InstructionSet}

-- ---- names and rows

-- a name with `_` in place of dots
abbrev pub undotted : Name → Name
undotted name = map (λ b. if b == 46 then 95 else b) name

-- the row of a label
abbrev pub row_named : Name → List (Name × ℕ) → Option ℕ
row_named name labels = lookup (bytes_eq name) labels

-- ---- where a label stands for a word

-- letters, digits, `_`, `$` and dots
abbrev pub is_name_byte : ℕ → Bool
is_name_byte b = is_word_byte b || b == 46

-- how many bytes stand before the first of this value
abbrev pub bytes_before : ℕ → List ℕ → ℕ
bytes_before byte bytes = position_or_len (λ b. b == byte) bytes

abbrev pub without_blanks : List ℕ → List ℕ
without_blanks bytes = take (length bytes - suffix_len is_blank bytes) bytes

-- what stands before the first comma, but for blanks just before that
abbrev pub front : List ℕ → List ℕ
front line = without_blanks (take (bytes_before 44 line) line)

-- where the name begins with which these bytes end
abbrev pub name_start : List ℕ → ℕ
name_start bytes = length bytes - suffix_len is_name_byte bytes

abbrev pub name_in : List ℕ → Name
name_in line = drop (name_start (front line)) (front line)

abbrev pub before_name : List ℕ → List ℕ
before_name line = take (name_start (front line)) (front line)

abbrev pub is_half : Word → Bool
is_half word = spells (codes "MVKL") word || spells (codes "MVKH") word

abbrev pub begins_with_unit : List Word → Bool
begins_with_unit [] = false
begins_with_unit (word ∷ words) = begins is_dot word

-- MVKL or MVKH with a unit
abbrev pub takes_half : List Word → Bool
takes_half [] = false
takes_half (word ∷ words) = if is_half word then begins_with_unit words else takes_half words

abbrev pub is_bad_operand : LineFault → Bool
is_bad_operand (Read BadOperand) = true
is_bad_operand fault = false

-- the label that stands for a word, in a line that by itself has this fault: the first operand of MVKL or MVKH
abbrev pub label_in : LineFault → List ℕ → Option Name
label_in fault line =
    if is_bad_operand fault && (takes_half (tokens (before_name line)) && is_label (undotted (name_in line))) then Some (undotted (name_in line)) else None

-- the line with 0 in place of the name
abbrev pub zeroed : List ℕ → List ℕ
zeroed line = before_name line ++ codes "0" ++ drop (bytes_before 44 line) line

-- ---- what a line says

-- what a line says, and the label whose word its constant is
pub record Said : Type 0 where
  pub line : Line
  pub word : Option Name

abbrev pub said_with : Option Name → Result Line LineFault → Result Said LineFault
said_with word (Ok line) = Ok (record { line = line; word = word })
said_with word (Err fault) = Err fault

abbrev pub of_label : InstructionSet → List ℕ → LineFault → Option Name → Result Said LineFault
of_label isa bytes fault None = Err fault
of_label isa bytes fault (Some name) = said_with (Some name) (line_says isa (zeroed bytes))

abbrev pub or_label : InstructionSet → List ℕ → Result Line LineFault → Result Said LineFault
or_label isa bytes (Ok line) = Ok (record { line = line; word = None })
or_label isa bytes (Err fault) = of_label isa bytes fault (label_in fault bytes)

-- what a line of packets says; with a label as a word it says what it does with 0 there
unfoldable pub row_says : InstructionSet → List ℕ → Result Said LineFault
row_says isa bytes = or_label isa bytes (line_says isa bytes)

-- ---- the halves of a word

-- the word of a label: the address of its row
abbrev pub word_of : Name → List (Name × ℕ) → ℤ
word_of name labels = pos (address_of (unwrap_or (row_named name labels) 0))

-- MVKL is MVK of the lower half, and MVKH is MVKLH of the upper one
abbrev pub half_of : Op → ℤ → ℤ → ℤ
half_of Mvk word k = signed_low_half word
half_of Mvklh word k = high_half word
half_of op word k = k

abbrev pub half_operands : Op → ℤ → Operands → Operands
half_operands op word (Constant k d) = Constant (half_of op word k) d
half_operands op word operands = operands

abbrev pub with_half : ℤ → Parts → Parts
with_half word parts =
    record { op = parts.op; operands = half_operands parts.op word parts.operands; cond = parts.cond; unit = parts.unit }

-- the same where the constant is the word of a label
abbrev pub with_word : Option Name → List (Name × ℕ) → Parts → Parts
with_word None labels parts = parts
with_word (Some name) labels parts = with_half (word_of name labels) parts
