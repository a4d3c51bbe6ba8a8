-- What a line of packets says by itself, or its first fault (docs/ADOPT.md, "Lines" and "Faults of a line").
use Rattle.std.specs.Prelude.{◌≡◌, ◌⊎◌, ℕ, Bool, true, false, not, ◌==◌, ◌&&◌, nat_eq, nat_lt, if◌then◌else◌, List, [], ◌∷◌, length, drop, take_while, codes}
use Rattle.std.specs.Prelude.{Option, Some, None, is_none, Result, Ok, Err}
use Rattle.std.specs.List.{list_all, list_any, starts_with}
use Rattle.c62_token.specs.Kind.{Word}
use Rattle.c62_token.specs.Token.{begins, is_allowed, is_blank, tokens}
use Rattle.c62_line.specs.declared.fault.Cause.{Cause}
use Rattle.c62_line.specs.declared.fault.Cause.TheVariants.{NotAscii, LineTooLong, BadLabel, UnknownMnemonic, Directive}
use Rattle.c62_line.specs.Line.{Says, Nothing, Does, Jumps, is_star, label_field, rest_says, said_of}
use Rattle.c62_line.specs.Unit.{is_dot}
use Rattle.c62_adopt_line.specs.declared.fault.LineFault.{LineFault}
use Rattle.c62_adopt_line.specs.declared.fault.LineFault.TheVariants.{Read, UnitWanted, Memory}
use Rattle.c62_adopt_line.specs.declared.line.Written.{Written}
use Rattle.c62_adopt_line.specs.Directive.{lays_nothing}
use Rattle.c62_adopt_line.specs.Plain.{plain_words, undotted}
use Rattle.c62_line.specs.declared.limits.TheConstants.{MOST_LINE}
use Rattle.c62_op.specs.declared.set.InstructionSet.{InstructionSet}

-- whether bars stand first, the label, and what stands behind these
pub record Line : Type 0 where
  pub beside : Bool
  pub label : Option Word
  pub says : Says

abbrev pub line_said : Bool → Option Word → Says → Line
line_said beside label says = record { beside = beside; label = label; says = says }

abbrev pub line_written : Written → Line
line_written written = line_said written.beside written.label (said_of written.what)

-- ---- an instruction

abbrev pub lacks_unit : Says → Bool
lacks_unit (Does parts) = is_none parts.unit
lacks_unit (Jumps parts label) = is_none parts.unit
lacks_unit _ = false

-- each instruction has its unit written
abbrev pub with_unit : Result Says Cause → Result Says LineFault
with_unit (Err cause) = Err (Read cause)
with_unit (Ok says) = if lacks_unit says then Err UnitWanted else Ok says

-- a colon stands before any comment
abbrev pub has_colon : List ℕ → Bool
has_colon bytes = list_any (λ b. b == 58) (take_while (λ b. not (b == 59)) bytes)

-- what the instruction of serial text says that stands for these words
abbrev pub plain_says : InstructionSet → List Word → Result Says LineFault
plain_says isa words = with_unit (rest_says isa (plain_words [] words))

unfoldable pub instruction_says : InstructionSet → List ℕ → Result Says LineFault
instruction_says isa bytes = if has_colon bytes then Err (Read BadLabel) else plain_says isa (tokens (undotted false bytes))

-- ---- behind the bars or the label

abbrev pub directive_says : Bool → List Word → Result Says LineFault
directive_says beside words = if not beside && lays_nothing words then Ok Nothing else Err (Read Directive)

abbrev pub words_say : InstructionSet → Bool → List ℕ → List Word → Result Says LineFault
words_say isa beside bytes [] = if beside then Err (Read UnknownMnemonic) else Ok Nothing
words_say isa beside bytes (word ∷ words) = if begins is_dot word then directive_says beside (word ∷ words) else instruction_says isa bytes

unfoldable pub statement_says : InstructionSet → Bool → List ℕ → Result Says LineFault
statement_says isa beside bytes = words_say isa beside bytes (tokens bytes)

-- ---- the front of a line

abbrev pub from_solid : List ℕ → List ℕ
from_solid [] = []
from_solid (b ∷ line) = if is_blank b then from_solid line else b ∷ line

-- what stands behind the bars, where these stand first
abbrev pub behind_bars : List ℕ → Option (List ℕ)
behind_bars line = if starts_with nat_eq (from_solid line) (codes "||") then Some (drop 2 (from_solid line)) else None

abbrev pub behind_colon : List ℕ → List ℕ
behind_colon [] = []
behind_colon (b ∷ line) = if b == 58 then line else behind_colon line

abbrev pub with_front : Bool → Option Word → Result Says LineFault → Result Line LineFault
with_front beside label (Ok says) = Ok (line_said beside label says)
with_front beside label (Err fault) = Err fault

abbrev pub with_label : InstructionSet → List ℕ → Option Word → Result Line LineFault
with_label isa line (Some label) = with_front false (Some label) (statement_says isa false (behind_colon line))
with_label isa line None = with_front false None (statement_says isa false line)

abbrev pub with_bars : InstructionSet → List ℕ → Option (List ℕ) → Result Line LineFault
with_bars isa line (Some rest) = with_front true None (statement_says isa true rest)
with_bars isa line None = with_label isa line (label_field (undotted true line))

-- what a line says, or its first fault
unfoldable pub line_says : InstructionSet → List ℕ → Result Line LineFault
line_says isa line =
    if not (list_all is_allowed line) then Err (Read NotAscii)
    else (if nat_lt MOST_LINE (length line) then Err (Read LineTooLong)
    else (if begins is_star line then Ok (line_said false None Nothing)
    else with_bars isa line (behind_bars line)))

-- what was read of a statement, and of a line; memory may run out before any answer
abbrev pub Fails : {T : Type 0} → LineFault → Result T LineFault → Type 0
Fails fault says = (fault ≡ Memory) ⊎ (says ≡ Err fault)
