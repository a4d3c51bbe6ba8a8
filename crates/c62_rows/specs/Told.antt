-- What is told of a text.
use Rattle.std.specs.Prelude.{◌≡◌, ℕ, List, Option, None}
use Rattle.c62_read.specs.Program.{Name}
use Rattle.c62_rows.specs.declared.fault.RowsFault.{RowsFault}
use Rattle.c62_rows.specs.declared.fault.RowsFault.TheVariants.{At, From, Memory}
use Rattle.c62_rows.specs.declared.text.RowsText.{RowsText}
use Rattle.c62_rows.specs.declared.text.Begun.{Begun as BegunRead}
use Rattle.c62_rows.specs.Rows.{text_of, AreRows}
use Rattle.c62_rows.specs.Text.{lost_among, aims_among, IsLost, IsText, IsTextFrom}
use Rattle.c62_op.specs.declared.set.InstructionSet.{InstructionSet}

-- the labels of a text, each with its row
abbrev pub names_of : RowsText → List (Name × ℕ)
names_of text = text.labels.entries

abbrev pub LosesTarget : List (Name × ℕ) → List (Name × ℕ) → RowsFault → Type 0
LosesTarget targets labels (At line cause) = IsLost targets labels line cause
LosesTarget targets labels From = ⊥
LosesTarget targets labels Memory = Unit {0}

-- each label that branches name is found, and these are their rows
pub record FindsAims (targets labels : List (Name × ℕ)) (aims : List ℕ) : Type 0 where
  pub found : lost_among targets labels ≡ None
  pub aims_are : aims ≡ aims_among targets labels

-- what flies of a text and from which row on, its labels, and what holds of its rows
pub record BeginsAs (isa : InstructionSet) (text : List ℕ) (from : Option Name) (begun : BegunRead) : Type 0 where
  pub is_text : IsTextFrom isa text from (text_of begun.rows) begun.first
  pub named : begun.labels.entries ≡ is_text.labels
  pub rows : AreRows begun.rows

-- what is read of a text, and what holds of its rows
pub record ReadsAs (isa : InstructionSet) (text : List ℕ) (read : RowsText) : Type 0 where
  pub is_text : IsText isa text (text_of read.rows) (names_of read)
  pub rows : AreRows read.rows
