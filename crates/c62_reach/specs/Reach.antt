-- Which parts of a text are reached from one of them (docs/ADOPT.md, "Parts of a text").
use Rattle.std.specs.Prelude.{◌≡◌, ◌⊎◌, ◌↔◌, ◌<◌, ℕ, ◌+◌, ◌==◌, Bool, true, false, ◌&&◌, if◌then◌else◌, List, [], ◌∷◌, ◌++◌, length, slice_index_or, Option, Some, None}
use Rattle.std.specs.List.{filter_map, position}
use Rattle.std.specs.Option.{option_or}
use Rattle.std.specs.Str.{bytes_eq}
use Rattle.c62_read.specs.Program.{Name}
use Rattle.c62_reach.specs.Part.{Part}

abbrev pub is_named : Name → Option Name → Bool
is_named name None = false
is_named name (Some label) = bytes_eq name label

-- the number of the first part that begins with this label
abbrev pub part_named : Name → List Part → Option ℕ
part_named name parts = position (λ part. is_named name part.label) parts

-- of the first one of this file that does
abbrev pub part_in : ℕ → Name → List Part → Option ℕ
part_in file name parts = position (λ part. file == part.file && is_named name part.label) parts

-- of the one that a name means in this file, which is the first one of all where the file has none
abbrev pub part_meant : ℕ → Name → List Part → Option ℕ
part_meant file name parts = option_or (part_in file name parts) (part_named name parts)

abbrev pub no_part : Part
no_part = record { label = None; file = 0; names = []; runs_on = false }

abbrev pub IsAmong : ℕ → List ℕ → Type 0
IsAmong k [] = ⊥
IsAmong k (j ∷ numbers) = (k ≡ j) ⊎ IsAmong k numbers

-- a part leads to the one below where it runs on, and to those whose labels its instructions name
abbrev pub leads_of : List Part → ℕ → Part → List ℕ
leads_of parts j part = (if part.runs_on then (j + 1) ∷ [] else []) ++ filter_map (λ name. part_meant part.file name parts) part.names

abbrev pub leads_from : List Part → ℕ → List ℕ
leads_from parts j = leads_of parts j (slice_index_or parts j no_part)

abbrev pub Leads : List Part → ℕ → ℕ → Type 0
Leads parts j k = IsAmong k (leads_from parts j)

-- the parts that are reached from this one: itself, and those to which a part that is reached leads
pub data IsReached (parts : List Part) (first : ℕ) : ℕ → Type 0 where
  start : IsReached parts first first
  more : (j k : ℕ) → IsReached parts first j → Leads parts j k → IsReached parts first k

abbrev pub IsMarked : List Bool → ℕ → Type 0
IsMarked marks k = slice_index_or marks k false ≡ true

-- each part has a mark, which says whether it is reached
pub record Marks (parts : List Part) (first : ℕ) (marks : List Bool) : Type 0 where
  pub len : length marks ≡ length parts
  pub reached : (k : ℕ) → k < length parts → IsMarked marks k ↔ IsReached parts first k
