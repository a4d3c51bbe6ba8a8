-- The labels of rows (docs/TRACE.md, "Lines").
use Rattle.std.specs.Prelude.{ℕ, ◌==◌, List, [], ◌∷◌, Option, Some, None, if◌then◌else◌}
use Rattle.c62_token.specs.Number.{is_label}
use Rattle.c62_read.specs.Program.{Name}

abbrev pub label_of : Name → Option Name
label_of name = if is_label name then Some name else None

-- the first label that names a row
abbrev pub name_at : List (Name × ℕ) → ℕ → Option Name
name_at [] row = None
name_at (label ∷ labels) row = if label.1 == row then label_of label.0 else name_at labels row
