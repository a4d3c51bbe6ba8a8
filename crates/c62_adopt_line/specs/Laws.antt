-- Laws of lines of packets (docs/ADOPT.md).
use Rattle.std.specs.Prelude.{◌≡◌, ◌⊎◌, ◌↔◌, ℕ, ◌*◌, ◌≤◌, ℤ, pos, Bool, true, false, not, ◌==◌, ◌&&◌, ◌||◌, if◌then◌else◌, List, [], ◌∷◌, ◌++◌, length, codes, decimal, Some, None, is_some, IfSome, Ok, IsTrue}
use Rattle.std.specs.List.{list_any}
use Rattle.c62_op.specs.declared.register.Unit.{Unit as FunctionalUnit}
use Rattle.c62_op.specs.declared.operands.Operands.{Operands}
use Rattle.c62_op.specs.declared.operands.Operands.TheVariants.{Block}
use Rattle.c62_op.specs.Takes.{takes_in}
use Rattle.c62_op.specs.Units.{is_taken_in}
use Rattle.c62_insn.specs.declared.insn.Insn.{Insn}
use Rattle.c62_insn.specs.Insn.{op_of, operands_of}
use Rattle.c62_insn.specs.Spelling.{spelling}
use Rattle.c62_token.specs.Number.{is_label, spells}
use Rattle.c62_token.specs.Token.{begins, tokens}
use Rattle.c62_token.specs.Kind.{Word}
use Rattle.c62_line.specs.Unit.{is_dot}
use Rattle.c62_line.specs.Line.{Says, Nothing, Pause, Does, Jumps, line_of}
use Rattle.c62_line.specs.Laws.{IsReadable, NamesTarget, says_on}
use Rattle.c62_adopt_line.specs.Line.{Line, line_said, line_says}
use Rattle.c62_adopt_line.specs.Plain.{accesses_in, bytes_named, names_branch}
use Rattle.c62_op.specs.declared.set.InstructionSet.{InstructionSet}

-- an instruction has its unit written
abbrev pub HasUnit : Says → Type 0
HasUnit (Does parts) = is_some parts.unit ≡ true
HasUnit (Jumps parts label) = is_some parts.unit ≡ true
HasUnit _ = Unit {0}

-- an instruction is one of the set
abbrev pub IsOfSet : InstructionSet → Says → Type 0
IsOfSet isa (Does parts) = IsTrue (is_taken_in isa parts.op parts.operands)
IsOfSet isa (Jumps parts label) = IsTrue (is_taken_in isa parts.op parts.operands)
IsOfSet isa _ = Unit {0}

abbrev pub names_block : Operands → Bool
names_block (Block number) = true
names_block operands = false

-- a branch to a label goes to one that may be written, and no other instruction goes to a block
abbrev pub HasTarget : Says → Type 0
HasTarget (Does parts) = names_block parts.operands ≡ false
HasTarget (Jumps parts label) = IsTrue (is_label label)
HasTarget _ = Unit {0}

-- so it is of a line's instruction, the line's label may be written, too, and a line with bars has none
pub record IsWhole (isa : InstructionSet) (line : Line) : Type 0 where
  pub unit : HasUnit line.says
  pub target : HasTarget line.says
  pub of_set : IsOfSet isa line.says
  pub label : IfSome line.label (λ label. IsTrue (is_label label))
  pub beside : line.beside ≡ true → line.label ≡ None

-- so it is of every line that says something
abbrev pub SaysWhole : InstructionSet → List ℕ → Type 0
SaysWhole isa bytes = (line : Line) → line_says isa bytes ≡ Ok line → IsWhole isa line

-- ---- serial text is read as it is

-- no dot stands behind another
abbrev pub has_one_dot : List ℕ → Bool
has_one_dot [] = true
has_one_dot (b ∷ line) = if b == 46 then not (list_any (λ c. c == 46) line) else has_one_dot line

-- another name of B stands before the unit, which is the first word with a dot
abbrev pub has_return : List Word → Bool
has_return [] = false
has_return (word ∷ words) = names_branch word || not (begins is_dot word) && has_return words

-- a line with neither a label, nor a dot but its unit's, nor round brackets, nor another name of B
pub record IsPlain (line : List ℕ) : Type 0 where
  pub no_colon : list_any (λ b. b == 58) line ≡ false
  pub one_dot : has_one_dot line ≡ true
  pub no_round : list_any (λ b. b == 40) line ≡ false
  pub no_return : has_return (tokens line) ≡ false

-- where such a line of serial text has its unit, it says the same as a line of packets, and so it does behind bars
pub record ReadsAsSerial (isa : InstructionSet) (line : List ℕ) : Type 0 where
  pub alone : (says : Says) → line_of isa line ≡ Ok (None, says) → HasUnit says → line_says isa line ≡ Ok (line_said false None says)
  pub beside : (says : Says) → line_of isa line ≡ Ok (None, says) → HasUnit says → (says ≡ Nothing → ⊥) → length line ≤ 253
      → line_says isa (codes "||" ++ line) ≡ Ok (line_said true None says)

-- ---- the lines of a listing read as themselves (docs/LISTING.md)

-- an instruction on a unit that takes it, as the first of its packet and as another
abbrev pub InstructionReads : InstructionSet → (ℕ → Word) → Insn → FunctionalUnit → Type 0
InstructionReads isa name insn unit =
    IsTrue (takes_in isa (op_of insn) (operands_of insn) unit) → NamesTarget name (operands_of insn)
    → (line_says isa (codes "   " ++ spelling name insn unit) ≡ Ok (line_said false None (says_on name insn unit)))
    × (line_says isa (codes "|| " ++ spelling name insn unit) ≡ Ok (line_said true None (says_on name insn unit)))

-- cycles without instructions
abbrev pub PauseReads : InstructionSet → ℕ → Type 0
PauseReads isa n = 1 ≤ n → n ≤ 9 → line_says isa (codes "   NOP " ++ decimal n) ≡ Ok (line_said false None (Pause n))

-- a label
abbrev pub LabelReads : InstructionSet → Word → Type 0
LabelReads isa label = IsTrue (is_label label) → line_says isa (label ++ codes ":") ≡ Ok (line_said false (Some label) Nothing)

-- an empty line
abbrev pub EmptyReads : InstructionSet → Type 0
EmptyReads isa = line_says isa [] ≡ Ok (line_said false None Nothing)

-- ---- comments

-- a comment behind a line changes nothing of what the line says, nor its fault
abbrev pub CommentSaysNothing : InstructionSet → List ℕ → List ℕ → Type 0
CommentSaysNothing isa line rest = IsReadable (line ++ 59 ∷ rest) → line_says isa (line ++ 59 ∷ rest) ≡ line_says isa line

-- ---- offsets in bytes

-- the bytes that an access of each name moves
pub record AccessesMove : Type 0 where
  pub words : (bytes_named (codes "LDW") ≡ Some 4) × (bytes_named (codes "STW") ≡ Some 4)
  pub halves : (bytes_named (codes "LDH") ≡ Some 2) × (bytes_named (codes "LDHU") ≡ Some 2) × (bytes_named (codes "STH") ≡ Some 2)
  pub bytes : (bytes_named (codes "LDB") ≡ Some 1) × (bytes_named (codes "LDBU") ≡ Some 1) × (bytes_named (codes "STB") ≡ Some 1)

abbrev pub IsSize : ℕ → Type 0
IsSize size = (size ≡ 1) ⊎ ((size ≡ 2) ⊎ (size ≡ 4))

-- an offset is so many accesses exactly where it is that many times their size
abbrev pub CountsBytes : ℕ → ℕ → ℤ → Type 0
CountsBytes size count offset = IsSize size → (accesses_in size offset ≡ pos count) ↔ (offset ≡ pos (size * count))
