-- What a viewer knows.
use Rattle.std.specs.Prelude.{◌≡◌, List, [], ◌∷◌, None}
use Rattle.logbook.specs.Pages.{Book}
use Rattle.c62_read.specs.Block.{Serial}
use Rattle.c62_sheet.specs.declared.entry.Entry.{Entry}
use Rattle.c62_view.specs.Course.{Course, Tale}

-- of which desk, its plan, and the entries that it has seen or been told of
pub record Knows : Type 0 where
  pub desk : Book
  pub plan : Serial
  pub entries : List Entry

abbrev pub known : Knows → Course
known k = (k.plan, k.entries)

-- the plan of what was seen last
abbrev pub plan_seen : List Tale → Serial
plan_seen [] = record { label = None; insns = [] }
plan_seen (t ∷ ts) = t.1.0

-- something was seen, and the last that was is of this book
abbrev pub IsOf : Book → List Tale → Type 0
IsOf b [] = ⊥
IsOf b (t ∷ ts) = t.0 ≡ b
