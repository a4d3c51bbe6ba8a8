-- Laws of lines: what is spelled reads back.
use Rattle.std.specs.Prelude.{◌≡◌, ℕ, ◌≤◌, ◌<◌, ◌^◌, List, [], ◌∷◌, ◌++◌, length, map}
use Rattle.std.specs.Prelude.{option_map, Option, Some, None, Result, Ok, Err, codes, decimal, IsTrue}
use Rattle.std.specs.Char.{to_ascii_lowercase}
use Rattle.std.specs.List.{list_all}
use Rattle.c62_op.specs.declared.register.Unit.{Unit as FunctionalUnit}
use Rattle.c62_op.specs.declared.operands.Op.{Op}
use Rattle.c62_op.specs.declared.operands.Op.TheVariants.{Add, Sub, Mvk}
use Rattle.c62_op.specs.declared.operands.Operands.{Operands}
use Rattle.c62_op.specs.declared.operands.Operands.TheVariants.{Block}
use Rattle.c62_insn.specs.declared.insn.Insn.{Insn}
use Rattle.c62_op.specs.Meaning.{result_of}
use Rattle.c62_insn.specs.Insn.{op_of, operands_of, cond_of}
use Rattle.c62_insn.specs.Spelling.{spelling}
use Rattle.c62_op.specs.Takes.{takes_in}
use Rattle.c62_token.specs.Token.{is_allowed, is_blank}
use Rattle.c62_token.specs.Number.{is_label}
use Rattle.c62_token.specs.Kind.{Word}
use Rattle.c62_line.specs.declared.limits.TheConstants.{MOST_LINE}
use Rattle.c62_line.specs.Mnemonic.{exchanged}
use Rattle.c62_line.specs.Line.{Parts, Says, Nothing, Pause, Does, Jumps, line_of, label_field}
use Rattle.c62_line.specs.declared.fault.Cause.{Cause}
use Rattle.c62_op.specs.declared.set.InstructionSet.{InstructionSet}

-- the parts of an instruction where this unit is written
abbrev pub parts_on : Insn → FunctionalUnit → Parts
parts_on insn unit = record { op = op_of insn; operands = operands_of insn; cond = cond_of insn; unit = Some unit }

-- what parts with these operands say: a branch to a block is a jump to the label of this name
abbrev pub says_with : (ℕ → Word) → Parts → Operands → Says
says_with name parts (Block number) = Jumps (record parts { operands = Block 0 }) (name number)
says_with name parts operands = Does parts

abbrev pub says_on : (ℕ → Word) → Insn → FunctionalUnit → Says
says_on name insn unit = says_with name (parts_on insn unit) (operands_of insn)

-- the block that a branch goes to has a label for its name
abbrev pub NamesTarget : (ℕ → Word) → Operands → Type 0
NamesTarget name operands = (number : ℕ) → operands ≡ Block number → IsTrue (is_label (name number))

-- the line that spells an instruction on a unit, with at most a hundred blanks before it, says that instruction on that unit
abbrev pub LineReadsBack : InstructionSet → (ℕ → Word) → Insn → FunctionalUnit → List ℕ → Type 0
LineReadsBack isa name insn unit blanks =
    IsTrue (takes_in isa (op_of insn) (operands_of insn) unit) → NamesTarget name (operands_of insn) → IsTrue (list_all is_blank blanks)
    → length blanks ≤ 100
    → line_of isa (blanks ++ spelling name insn unit) ≡ Ok (None, says_on name insn unit)

-- the line that spells so many cycles without an instruction says them
abbrev pub PauseReadsBack : InstructionSet → ℕ → List ℕ → Type 0
PauseReadsBack isa n blanks =
    1 ≤ n → n ≤ 9 → IsTrue (list_all is_blank blanks) → length blanks ≤ 100 → line_of isa (blanks ++ (codes "NOP " ++ decimal n)) ≡ Ok (None, Pause n)

-- a label and a colon are a line of that label, and say nothing else
abbrev pub LabelReadsBack : InstructionSet → Word → Type 0
LabelReadsBack isa label =
    IsTrue (is_label label) → (line_of isa (label ++ codes ":") ≡ Ok (Some label, Nothing)) × (label_field (label ++ codes ":") ≡ Some label)

-- ---- what says nothing

-- a line that may be read by itself: no byte that isn't allowed, and not too long
abbrev pub IsReadable : List ℕ → Type 0
IsReadable line = IsTrue (list_all is_allowed line) × (length line ≤ MOST_LINE)

-- a line that begins with `*` says nothing, and has no label
abbrev pub StarSaysNothing : InstructionSet → List ℕ → Type 0
StarSaysNothing isa line = (line_of isa line ≡ Ok (None, Nothing)) × (label_field line ≡ None)

-- a comment behind a line changes neither what the line says nor its label
abbrev pub CommentSaysNothing : InstructionSet → List ℕ → List ℕ → Type 0
CommentSaysNothing isa line rest = (line_of isa (line ++ 59 ∷ rest) ≡ line_of isa line) × (label_field (line ++ 59 ∷ rest) ≡ label_field line)

-- ---- case

-- The other line is this one but for the case of letters, this byte standing before both. An `x` behind a 0 is kept: that of a
-- hexadecimal number is a small letter.
abbrev pub IsRecased : ℕ → List ℕ → List ℕ → Type 0
IsRecased before [] [] = Unit {0}
IsRecased before (b ∷ line) (c ∷ other) =
    (to_ascii_lowercase b ≡ to_ascii_lowercase c) × (before ≡ 48 → to_ascii_lowercase b ≡ 120 → b ≡ c) × IsRecased b line other
IsRecased before _ _ = ⊥

-- what is said, with the labels in small letters
abbrev pub in_small : Word → Word
in_small label = map to_ascii_lowercase label

abbrev pub small_says : Says → Says
small_says (Jumps parts label) = Jumps parts (in_small label)
small_says says = says

abbrev pub small_labels : Result (Option Word × Says) Cause → Result (Option Word × Says) Cause
small_labels (Ok (label, says)) = Ok (option_map in_small label, small_says says)
small_labels (Err cause) = Err cause

-- case says nothing but in labels, which keep theirs
abbrev pub CaseSaysNothing : InstructionSet → List ℕ → List ℕ → Type 0
CaseSaysNothing isa line other =
    (small_labels (line_of isa line) ≡ small_labels (line_of isa other)) × ((parts : Parts) → line_of isa line ≡ Ok (None, Does parts)
    → line_of isa other ≡ Ok (None, Does parts))

-- the label that a line branches to, if it says so
abbrev pub target_in : Result (Option Word × Says) Cause → Option Word
target_in (Ok (label, Jumps parts target)) = Some target
target_in said = None

-- ---- a program is its lines

-- ---- blocks are cut by labels and branches

-- ---- labels

-- ---- what is rewritten keeps its effect

-- an operation that stands for another with its two sources exchanged does with them what the other did
abbrev pub KeepsEffect : Op → Op → Type 0
KeepsEffect op turned = exchanged op ≡ Some turned → (a b : ℕ) → result_of op a b ≡ result_of turned b a

-- An addition to 0 moves a word. A word less itself is 0, and so is what MVK of 0 makes.
pub record KeepEffects : Type 0 where
  pub moves : (a : ℕ) → a < 2 ^ 32 → result_of Add 0 a ≡ a
  pub clears : (a : ℕ) → a < 2 ^ 32 → result_of Sub a a ≡ 0
  pub zero : (a : ℕ) → result_of Mvk 0 a ≡ 0
