-- The rows of a text of packets, or why it makes none (docs/EXEC.md, "Faults of a text").
use Rattle.std.specs.Prelude.{◌≡◌, ◌⊎◌, ℕ, ◌+◌, ◌≤◌, ◌<◌, if◌then◌else◌, List, [], ◌∷◌, length, map, find, unwrap_or, Option, Some, None, is_none}
use Rattle.c62_token.specs.Number.{is_label}
use Rattle.c62_line.specs.declared.fault.Cause.TheVariants.{TextTooLong, UnknownTarget}
use Rattle.c62_read.specs.Program.{Name}
use Rattle.c62_read.specs.Text.{lines_of}
use Rattle.c62_adopt_line.specs.declared.fault.LineFault.TheVariants.{Read}
use Rattle.c62_adopt_cut.specs.Text.{most_bytes}
use Rattle.c62_flight.specs.Text.{Text}
use Rattle.c62_rows.specs.declared.fault.RowsCause.{RowsCause}
use Rattle.c62_rows.specs.declared.fault.RowsCause.TheVariants.{Line as OfLine}
use Rattle.c62_rows.specs.declared.fault.RowsFault.{RowsFault}
use Rattle.c62_rows.specs.declared.fault.RowsFault.TheVariants.{At, From, Memory}
use Rattle.c62_rows.specs.Word.{undotted, row_named}
use Rattle.c62_rows.specs.Worded.{AreWorded}
use Rattle.c62_rows.specs.Reading.{Reading, no_reading, all_rows, AddsLine, RefusesLine}
use Rattle.c62_op.specs.declared.set.InstructionSet.{InstructionSet}

-- these lines, the first of which has this number, are read below what was read
abbrev pub LeadsTo : InstructionSet → ℕ → Reading → List (List ℕ) → Reading → Type 0
LeadsTo isa number old [] new = new ≡ old
LeadsTo isa number old (bytes ∷ lines) new = (next : Reading) × AddsLine isa number bytes old next × LeadsTo isa (number + 1) next lines new

-- of these lines this one is the first with a fault, by itself or because of those above it
abbrev pub RefusesAmong : InstructionSet → ℕ → Reading → List (List ℕ) → ℕ → RowsCause → Type 0
RefusesAmong isa number old [] line cause = ⊥
RefusesAmong isa number old (bytes ∷ lines) line cause =
    ((line ≡ number) × RefusesLine isa number bytes old cause)
    ⊎ ((next : Reading) × AddsLine isa number bytes old next × RefusesAmong isa (number + 1) next lines line cause)

-- the row of the label of this name
abbrev pub row_from : Name → List (Name × ℕ) → Option ℕ
row_from name labels = if is_label (undotted name) then row_named (undotted name) labels else None

-- of the labels that branches and words name, the first that no line has, with the first line of one
abbrev pub lost_among : List (Name × ℕ) → List (Name × ℕ) → Option (Name × ℕ)
lost_among targets labels = find (λ target. is_none (row_named target.0 labels)) targets

abbrev pub aims_among : List (Name × ℕ) → List (Name × ℕ) → List ℕ
aims_among targets labels = map (λ target. unwrap_or (row_named target.0 labels) 0) targets

-- what flies of what was read: its rows, with the words of labels, and the rows of the labels that branches and words name
pub record FliesOf (reading : Reading) (flying : Text) : Type 0 where
  pub rows : AreWorded reading.words reading.labels (all_rows reading) flying.rows
  pub aims : flying.aims ≡ aims_among reading.targets reading.labels

-- all lines of a text lead to this
pub record IsReading (isa : InstructionSet) (text : List ℕ) (reading : Reading) : Type 0 where
  pub short : length text ≤ most_bytes
  pub leads : LeadsTo isa 1 no_reading (lines_of text) reading

-- what flies of a text, and the rows of its labels
pub record IsText (isa : InstructionSet) (text : List ℕ) (flying : Text) (labels : List (Name × ℕ)) : Type 0 where
  pub reading : Reading
  pub reads : IsReading isa text reading
  pub found : lost_among reading.targets reading.labels ≡ None
  pub flies : FliesOf reading flying
  pub named : labels ≡ reading.labels

-- ---- why it makes none

pub record IsTooLong (text : List ℕ) (line : ℕ) (cause : RowsCause) : Type 0 where
  pub long : most_bytes < length text
  pub none : line ≡ 0
  pub told : cause ≡ OfLine (Read TextTooLong)

-- the first line with a fault by itself or because of those above it, in a text that is not too long
pub record IsFirstFault (isa : InstructionSet) (text : List ℕ) (line : ℕ) (cause : RowsCause) : Type 0 where
  pub short : length text ≤ most_bytes
  pub among : RefusesAmong isa 1 no_reading (lines_of text) line cause

-- the line is the first that names a label, by a branch or for its word, that no line has
pub record IsLost (targets labels : List (Name × ℕ)) (line : ℕ) (cause : RowsCause) : Type 0 where
  pub name : Name
  pub lost : lost_among targets labels ≡ Some (name, line)
  pub told : cause ≡ OfLine (Read UnknownTarget)

-- where there is none of the former
pub record IsLostIn (isa : InstructionSet) (text : List ℕ) (line : ℕ) (cause : RowsCause) : Type 0 where
  pub reading : Reading
  pub reads : IsReading isa text reading
  pub lost : IsLost reading.targets reading.labels line cause

-- memory may run out before any answer
abbrev pub Refuses : InstructionSet → List ℕ → RowsFault → Type 0
Refuses isa text (At line cause) = IsTooLong text line cause ⊎ (IsFirstFault isa text line cause ⊎ IsLostIn isa text line cause)
Refuses isa text From = ⊥
Refuses isa text Memory = Unit {0}

-- ---- where a run begins

-- with the first row, or with that of the label of this name
abbrev pub first_row : Option Name → List (Name × ℕ) → Option ℕ
first_row None labels = Some 0
first_row (Some name) labels = row_from name labels

-- this flies of the text, from this row on
pub record IsTextFrom (isa : InstructionSet) (text : List ℕ) (from : Option Name) (flying : Text) (first : ℕ) : Type 0 where
  pub labels : List (Name × ℕ)
  pub is_text : IsText isa text flying labels
  pub begins : first_row from labels ≡ Some first

-- it is a text, of which no line has the label
pub record LacksStart (isa : InstructionSet) (text : List ℕ) (from : Option Name) : Type 0 where
  pub flying : Text
  pub labels : List (Name × ℕ)
  pub is_text : IsText isa text flying labels
  pub lacks : first_row from labels ≡ None

-- the faults of the text come first
abbrev pub RefusesFrom : InstructionSet → List ℕ → Option Name → RowsFault → Type 0
RefusesFrom isa text from From = LacksStart isa text from
RefusesFrom isa text from fault = Refuses isa text fault
