-- Texts of packets and their rows (docs/EXEC.md, "What holds").
use Rattle.std.specs.Prelude.{◌≡◌, ◌⊎◌, ℕ, ◌≤◌, List, [], ◌∷◌, length, Option}
use Rattle.c62_read.specs.Program.{Name}
use Rattle.c62_flight.specs.Text.{Text}
use Rattle.c62_rows.specs.declared.fault.RowsFault.{RowsFault}
use Rattle.c62_rows.specs.declared.fault.RowsFault.TheVariants.{Memory}
use Rattle.c62_rows.specs.Text.{IsText, IsTextFrom, RefusesFrom}
use Rattle.c62_op.specs.declared.set.InstructionSet.{InstructionSet}

-- a text has one list of rows, and one row for each label
abbrev pub HasOneText : InstructionSet → List ℕ → Type 0
HasOneText isa text =
    (flying other : Text) (labels names : List (Name × ℕ)) → IsText isa text flying labels → IsText isa text other names → (flying ≡ other) × (labels ≡ names)

-- and a run that begins with a label, or with none, has one first row
abbrev pub HasOneStart : InstructionSet → List ℕ → Option Name → Type 0
HasOneStart isa text from =
    (flying other : Text) (first next : ℕ) → IsTextFrom isa text from flying first → IsTextFrom isa text from other next → (flying ≡ other) × (first ≡ next)

-- it is refused in one way, where memory does not run out
abbrev pub HasOneRefusal : InstructionSet → List ℕ → Option Name → Type 0
HasOneRefusal isa text from =
    (fault other : RowsFault) → RefusesFrom isa text from fault → RefusesFrom isa text from other → (fault ≡ other) ⊎ ((fault ≡ Memory) ⊎ (other ≡ Memory))

-- what makes rows is not refused but for memory, and nothing makes two lists of rows or is refused in two ways
pub record HasOneAnswer (isa : InstructionSet) (text : List ℕ) (from : Option Name) : Type 0 where
  pub rows : HasOneText isa text
  pub start : HasOneStart isa text from
  pub refusal : (flying : Text) (first : ℕ) (fault : RowsFault) → IsTextFrom isa text from flying first → RefusesFrom isa text from fault → fault ≡ Memory
  pub one_refusal : HasOneRefusal isa text from

-- from this row on labels stand in the order of their rows, and none names a row behind the last of so many and the one below
abbrev pub RiseTo : ℕ → ℕ → List (Name × ℕ) → Type 0
RiseTo rows from [] = from ≤ rows
RiseTo rows from (label ∷ labels) = (from ≤ label.1) × RiseTo rows label.1 labels

-- so those of a text do
abbrev pub LabelsRise : InstructionSet → List ℕ → Type 0
LabelsRise isa text = (flying : Text) (labels : List (Name × ℕ)) → IsText isa text flying labels → RiseTo (length flying.rows) 0 labels
