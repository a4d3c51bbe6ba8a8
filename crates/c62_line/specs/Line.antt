-- What a line says, and its first fault.
use Rattle.std.specs.Prelude.{◌≡◌, ℕ, pos, Bool, true, false, not, ◌==◌, ◌&&◌, nat_le, nat_lt, List, [], ◌∷◌, length, drop, Option, Some, None}
use Rattle.std.specs.Prelude.{option_map, option_and_then, Result, Ok, Err, MatchResult, codes, if◌then◌else◌}
use Rattle.std.specs.Borrow.{Bor}
use Rattle.std.specs.List.{list_all, list_any}
use Rattle.std.specs.Option.{option_copied}
use Rattle.c62_op.specs.declared.register.Side.{Side}
use Rattle.c62_op.specs.declared.register.Cond.{Cond as Condition}
use Rattle.c62_op.specs.declared.register.Letter.{Letter}
use Rattle.c62_op.specs.declared.register.Unit.{Unit as FunctionalUnit}
use Rattle.c62_op.specs.declared.operands.Op.{Op}
use Rattle.c62_op.specs.declared.operands.Op.TheVariants.{B as Branch}
use Rattle.c62_op.specs.declared.operands.Operands.{Operands}
use Rattle.c62_op.specs.declared.operands.Operands.TheVariants.{Block}
use Rattle.c62_insn.specs.declared.insn.Insn.{Insn}
use Rattle.c62_insn.specs.declared.fault.FormFault.{FormFault}
use Rattle.c62_insn.specs.declared.fault.FormFault.TheVariants.{NoUnit, BadSide}
use Rattle.c62_insn.specs.Fault.{fault_in as form_fault_in}
use Rattle.c62_insn.specs.Insn.{op_of, operands_of as written_operands, cond_of, unit_of}
use Rattle.c62_op.specs.Shape.{crosses_to, data_path_of, is_branch, is_store}
use Rattle.c62_op.specs.Takes.{same_side}
use Rattle.c62_line.specs.declared.limits.TheConstants.{MOST_LINE}
use Rattle.c62_line.specs.declared.fault.Cause.{Cause}
use Rattle.c62_line.specs.declared.fault.Cause.TheVariants.{NotAscii, LineTooLong, BadLabel, UnknownMnemonic, BadUnit, BadOperand, Form, ParallelBar}
use Rattle.c62_line.specs.declared.fault.Cause.TheVariants.{Directive}
use Rattle.c62_line.specs.declared.mnemonic.Mnemonic.{Mnemonic}
use Rattle.c62_line.specs.declared.mnemonic.Mnemonic.TheVariants.{Operation, Nop as NopName}
use Rattle.c62_line.specs.declared.unit.Mark.{Mark}
use Rattle.c62_line.specs.declared.unit.Mark.TheVariants.{Plain, Cross, Path}
use Rattle.c62_line.specs.declared.unit.WrittenUnit.{WrittenUnit}
use Rattle.c62_line.specs.declared.reading.What.{What}
use Rattle.c62_line.specs.declared.reading.What.TheVariants as what
use Rattle.c62_line.specs.declared.reading.Statement.{Statement}
use Rattle.c62_line.specs.declared.reading.Statement.TheVariants as statement
use Rattle.c62_token.specs.declared.token.Tokens.{Tokens}
use Rattle.c62_token.specs.Token.{begins, is_allowed, tokens, words_left}
use Rattle.c62_token.specs.Number.{spells, is_label}
use Rattle.c62_token.specs.declared.kind.Kind.{Kind}
use Rattle.c62_token.specs.declared.kind.Kind.TheVariants.{Open, Close, Not, Register, Number}
use Rattle.c62_token.specs.Kind.{Word, kinds_of, kinds_in}
use Rattle.c62_line.specs.Operand.{operands_of}
use Rattle.c62_line.specs.Mnemonic.{mnemonic_named, stands_for, with_kind}
use Rattle.c62_line.specs.Unit.{is_dot, unit_front, unit_fits}
use Rattle.c62_op.specs.declared.set.InstructionSet.{InstructionSet}

-- an instruction by its parts
pub record Parts : Type 0 where
  pub op : Op
  pub operands : Operands
  pub cond : Option Condition
  pub unit : Option FunctionalUnit

abbrev pub parts_of : Insn → Parts
parts_of insn = record { op = op_of insn; operands = written_operands insn; cond = cond_of insn; unit = unit_of insn }

-- what a line says behind its label: nothing, cycles without an instruction, an instruction, or a branch to a label
pub data Says : Type 0 where
  Nothing : Says
  Pause : ℕ → Says
  Does : Parts → Says
  Jumps : Parts → List ℕ → Says

abbrev pub said_of : What → Says
said_of what.Empty = Nothing
said_of (what.Nop n) = Pause n
said_of (what.Insn insn) = Does (parts_of insn)
said_of (what.Jump insn label) = Jumps (parts_of insn) label

-- the same where a branch's label still stands in the line
abbrev pub statement_of : Statement → Says
statement_of statement.Empty = Nothing
statement_of (statement.Nop n) = Pause n
statement_of (statement.Insn insn) = Does (parts_of insn)
statement_of (statement.Jump insn label) = Jumps (parts_of insn) label.now

-- what a branch goes to is a label
abbrev pub names_label : Statement → Bool
names_label (statement.Jump insn label) = is_label label.now
names_label _ = true

abbrev pub said : Result Statement Cause → Result Says Cause
said (Ok read) = Ok (statement_of read)
said (Err cause) = Err cause

-- ---- the head of a line

-- the label that stands first, and the tokens behind its colon
unfoldable pub label_front : List Word → Option Word × List Word
label_front (name ∷ colon ∷ words) =
    if spells (codes ":") colon && is_label name then (Some name, words) else (None, name ∷ colon ∷ words)
label_front words = (None, words)

abbrev pub has_colon : List Word → Bool
has_colon words = list_any (λ word. spells (codes ":") word) words

abbrev pub without_colon : Option Word × List Word → Result (Option Word × List Word) Cause
without_colon (label, words) = if has_colon words then Err BadLabel else Ok (label, words)

abbrev pub is_bars : List Word → Bool
is_bars [] = false
is_bars (word ∷ words) = spells (codes "||") word

abbrev pub is_star : ℕ → Bool
is_star b = b == 42

-- The label of a line and the tokens behind it. A line that begins with `*` is a comment.
unfoldable pub head_of : List ℕ → Result (Option Word × List Word) Cause
head_of line =
    if not (list_all is_allowed line) then Err NotAscii
    else (if nat_lt MOST_LINE (length line) then Err LineTooLong
    else (if begins is_star line then Ok (None, [])
    else (if is_bars (tokens line) then Err ParallelBar
    else without_colon (label_front (tokens line)))))

-- the label in a line's label field, decided for the line alone
unfoldable pub label_field : List ℕ → Option Word
label_field line = (label_front (tokens line)).0

-- what is read of a line's head
abbrev pub IsHead : Result (Option (Bor Word) × Tokens) Cause → Result (Option Word × List Word) Cause → Type 0
IsHead read says = MatchResult read (λ head. says ≡ Ok (option_copied head.0, words_left head.1)) (λ cause. says ≡ Err cause)

-- ---- what stands before the operands

-- `[R]` or `[!R]`, and how many tokens it has; nothing, where no bracket stands first. There is no answer where a bracket
-- begins no condition.
unfoldable pub condition_of : List Kind → Option (Option Condition × ℕ)
condition_of (Open ∷ Register reg ∷ Close ∷ kinds) = Some (Some (record { reg = reg; negated = false }), 3)
condition_of (Open ∷ Not ∷ Register reg ∷ Close ∷ kinds) = Some (Some (record { reg = reg; negated = true }), 4)
condition_of (Open ∷ kinds) = None
condition_of kinds = Some (None, 0)

abbrev pub before_rest : List Word → Option Condition × ℕ → Option Condition × List Word
before_rest words (cond, count) = (cond, drop count words)

-- the condition, where one stands first, and the tokens behind it
unfoldable pub condition_front : List Word → Option (Option Condition × List Word)
condition_front words = option_map (before_rest words) (condition_of (kinds_of words))

-- the mnemonic that stands first, and the tokens behind it
abbrev pub mnemonic_front : InstructionSet → List Word → Option (Mnemonic × List Word)
mnemonic_front isa [] = None
mnemonic_front isa (name ∷ words) = option_map (λ mnemonic. (mnemonic, words)) (mnemonic_named isa name)

-- whether the unit, where one is written, may be written behind the mnemonic
abbrev pub fits_behind : Mnemonic → Option WrittenUnit → Bool
fits_behind mnemonic None = true
fits_behind mnemonic (Some written) = unit_fits mnemonic written

abbrev pub if_fitting : Mnemonic → Option WrittenUnit × List Word → Option (Option WrittenUnit × List Word)
if_fitting mnemonic (written, words) = if fits_behind mnemonic written then Some (written, words) else None

-- the unit that is written behind the mnemonic, where one is, and the tokens behind it
abbrev pub unit_behind : Mnemonic → List Word → Option (Option WrittenUnit × List Word)
unit_behind mnemonic words = option_and_then (if_fitting mnemonic) (unit_front words)

-- ---- the operands

-- a label alone, where the mnemonic is a branch
abbrev pub label_alone : List Word → Option Word
label_alone (word ∷ []) = if is_label word then Some word else None
label_alone _ = None

abbrev pub target_of : Mnemonic → List Word → Option Word
target_of (Operation op) words = if is_branch op then label_alone words else None
target_of _ words = None

abbrev pub is_storing : Mnemonic → Bool
is_storing (Operation op) = is_store op
is_storing _ = false

abbrev pub letter_written : Option WrittenUnit → Option Letter
letter_written written = option_map (λ w. w.unit.letter) written

-- the operation and operands that a mnemonic with these operands stands for
abbrev pub standing : Mnemonic → Option WrittenUnit → Option Operands → Option (Op × Operands)
standing mnemonic written operands = option_and_then (stands_for mnemonic (letter_written written)) operands

-- the same, where the operation has such operands
abbrev pub operands_written : InstructionSet → Mnemonic → Option WrittenUnit → Option Operands → Option (Op × Operands)
operands_written isa mnemonic written operands = option_and_then (with_kind isa) (standing mnemonic written operands)

abbrev pub cycles_of : Kind → Result Says Cause
cycles_of (Number (pos n)) = if nat_le 1 n && nat_le n 9 then Ok (Pause n) else Err BadOperand
cycles_of _ = Err BadOperand

-- the number of cycles behind NOP, which takes no condition
unfoldable pub pause_of : Option Condition → List Kind → Result Says Cause
pause_of None [] = Ok (Pause 1)
pause_of None (kind ∷ []) = cycles_of kind
pause_of cond kinds = Err BadOperand

-- ---- the form of an instruction

abbrev pub unit_written : Option WrittenUnit → Option FunctionalUnit
unit_written written = option_map (λ w. w.unit) written

abbrev pub is_path : Side → Option Side → Bool
is_path side None = false
is_path side (Some path) = same_side path side

abbrev pub misses : Mark → Side → Operands → Bool
misses Plain side operands = false
misses Cross side operands = not (crosses_to side operands)
misses (Path path) side operands = not (is_path path (data_path_of operands))

-- X where nothing crosses, or T with the other file's number
abbrev pub is_mismarked : Option WrittenUnit → Operands → Bool
is_mismarked None operands = false
is_mismarked (Some written) operands = misses written.mark written.unit.side operands

-- a wrong mark is a bad side, which comes before a lack of units
abbrev pub with_mark : Option FormFault → Bool → Option FormFault
with_mark None mismarked = if mismarked then Some BadSide else None
with_mark (Some NoUnit) mismarked = if mismarked then Some BadSide else Some NoUnit
with_mark (Some fault) mismarked = Some fault

unfoldable pub text_fault : InstructionSet → Op → Operands → Option Condition → Option WrittenUnit → Option FormFault
text_fault isa op operands cond written =
    with_mark (form_fault_in isa op operands cond (unit_written written)) (is_mismarked written operands)

-- the fault that what is written has, where no instruction can be made of it
abbrev pub IsFaultOfText : InstructionSet → Op → Operands → Option Condition → Option WrittenUnit → Result Insn FormFault → Type 0
IsFaultOfText isa op operands cond written made =
    MatchResult made (λ insn. text_fault isa op operands cond written ≡ None) (λ fault. text_fault isa op operands cond written ≡ Some fault)

abbrev pub parts_read : Op → Operands → Option Condition → Option WrittenUnit → Parts
parts_read op operands cond written = record { op = op; operands = operands; cond = cond; unit = unit_written written }

abbrev pub formed : Option FormFault → Says → Result Says Cause
formed None says = Ok says
formed (Some fault) says = Err (Form fault)

-- ---- what is said behind the unit

abbrev pub does : InstructionSet → Option Condition → Option WrittenUnit → Option (Op × Operands) → Result Says Cause
does isa cond written None = Err BadOperand
does isa cond written (Some (op, operands)) = formed (text_fault isa op operands cond written) (Does (parts_read op operands cond written))

abbrev pub jumps : InstructionSet → Option Condition → Option WrittenUnit → Word → Result Says Cause
jumps isa cond written label = formed (text_fault isa Branch (Block 0) cond written) (Jumps (parts_read Branch (Block 0) cond written) label)

abbrev pub jumps_or_does : InstructionSet → Option Word → Mnemonic → Option Condition → Option WrittenUnit → List Word → Result Says Cause
jumps_or_does isa (Some label) mnemonic cond written words = jumps isa cond written label
jumps_or_does isa None mnemonic cond written words =
    does isa cond written (operands_written isa mnemonic written (operands_of isa (is_storing mnemonic) (kinds_in isa words)))

unfoldable pub behind_unit : InstructionSet → Mnemonic → Option Condition → Option WrittenUnit → List Word → Result Says Cause
behind_unit isa NopName cond written words = pause_of cond (kinds_in isa words)
behind_unit isa mnemonic cond written words = jumps_or_does isa (target_of mnemonic words) mnemonic cond written words

-- ---- the steps in their order

-- what was read, or this fault
abbrev pub or_fault : {T : Type 0} → Cause → Option T → Result T Cause
or_fault cause None = Err cause
or_fault cause (Some found) = Ok found

-- what the next step makes of what was read; a fault stands
abbrev pub and_read : {T S : Type 0} → Result T Cause → (T → Result S Cause) → Result S Cause
and_read (Ok found) next = next found
and_read (Err cause) next = Err cause

-- the condition, the mnemonic, the unit and what stands behind it
unfoldable pub instruction_of : InstructionSet → List Word → Result Says Cause
instruction_of isa words =
    and_read (or_fault BadOperand (condition_front words)) (λ condition.
    and_read (or_fault UnknownMnemonic (mnemonic_front isa condition.1)) (λ mnemonic.
    and_read (or_fault BadUnit (unit_behind mnemonic.0 mnemonic.1)) (λ unit.
    behind_unit isa mnemonic.0 condition.0 unit.0 unit.1)))

-- behind the label
unfoldable pub rest_says : InstructionSet → List Word → Result Says Cause
rest_says isa [] = Ok Nothing
rest_says isa (word ∷ words) = if begins is_dot word then Err Directive else instruction_of isa (word ∷ words)

-- ---- a line

abbrev pub with_rest : Option Word → Result Says Cause → Result (Option Word × Says) Cause
with_rest label (Ok says) = Ok (label, says)
with_rest label (Err cause) = Err cause

abbrev pub with_head : InstructionSet → Result (Option Word × List Word) Cause → Result (Option Word × Says) Cause
with_head isa (Ok (label, words)) = with_rest label (rest_says isa words)
with_head isa (Err cause) = Err cause

-- what a line says by itself: its label and what stands behind it, or its first fault
unfoldable pub line_of : InstructionSet → List ℕ → Result (Option Word × Says) Cause
line_of isa line = with_head isa (head_of line)

-- the fault, where there is one
abbrev pub fault_in : {T : Type 0} → Result T Cause → Option Cause
fault_in (Ok value) = None
fault_in (Err cause) = Some cause
