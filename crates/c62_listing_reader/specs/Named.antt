-- The number of a label.
use Rattle.std.specs.Prelude.{◌≡◌, ℕ, min, List, [], ◌∷◌, Option, Some, None, if◌then◌else◌}
use Rattle.std.specs.Str.{bytes_eq}
use Rattle.std.specs.Borrow.{Bor}
use Rattle.std.specs.BTreeMap.{BTreeMap, get_by}
use Rattle.std.specs.Cmp.Lexicographic.{slice_cmp}
use Rattle.std.specs.Ordering.{nat_cmp}
use Rattle.c62_read.specs.Program.{Name}
use Rattle.c62_listing_reader.specs.Said.{names_in}
use Rattle.c62_listing_reader.specs.Faults.{contents}

-- the number of the first of these that has this label, if one has it, or 255 where it is greater
abbrev pub number_in : List (Name × ℕ) → Name → Option ℕ
number_in [] label = None
number_in (entry ∷ names) label = if bytes_eq entry.0 label then Some (min 255 entry.1) else number_in names label

-- a table of labels with their numbers
abbrev pub Numbers : Type 0
Numbers = BTreeMap (Bor (List ℕ)) ℕ

-- the number that a table has for a label
abbrev pub number_at : Numbers → Name → Option ℕ
number_at numbers label = get_by (λ key. slice_cmp nat_cmp label key.now) numbers

-- a table has each label of a text with the first number that it has there
abbrev pub HasFirstNumbers : Numbers → List ℕ → Type 0
HasFirstNumbers numbers text = (label : Name) → number_at numbers label ≡ number_in (names_in 0 (contents text)) label

abbrev pub or_number : Option ℕ → Option ℕ → Option ℕ
or_number None other = other
or_number (Some number) other = Some number

-- the table has this label with this number too, where it had none
abbrev pub AddsFirst : Name → ℕ → Numbers → Numbers → Type 0
AddsFirst label number old new = (other : Name) → number_at new other ≡ or_number (number_at old other) (number_in ((label, number) ∷ []) other)
