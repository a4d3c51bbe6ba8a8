-- Parts by their labels.
use Rattle.std.specs.Prelude.{◌≡◌, ℕ, ◌==◌, Bool, ◌&&◌, List, [], ◌∷◌, ◌++◌, Option, Some, None, is_some, if◌then◌else◌}
use Rattle.std.specs.Map.{lookup}
use Rattle.std.specs.Str.{bytes_eq}
use Rattle.c62_read.specs.Program.{Name}
use Rattle.c62_reach.specs.declared.index.Index.{Index}
use Rattle.c62_reach.specs.Part.{Part}
use Rattle.c62_reach.specs.Reach.{part_in, part_named}

-- the same label of the same file
abbrev pub is_same : ℕ × Name → ℕ × Name → Bool
is_same one other = one.0 == other.0 && bytes_eq one.1 other.1

-- what is found under a name is the number of the first part that begins with that label, and so it is for each file
pub record Indexes (parts : List Part) (index : Index) : Type 0 where
  pub first : (name : Name) → lookup (bytes_eq name) index.first.entries ≡ part_named name parts
  pub own : (file : ℕ) (name : Name) → lookup (is_same (file, name)) index.own.entries ≡ part_in file name parts

-- with this key of the part of this number, where no part above has it
abbrev pub with_key : {K : Type 0} → (K → K → Bool) → K → ℕ → List (K × ℕ) → List (K × ℕ)
with_key same key k entries = if is_some (lookup (same key) entries) then entries else entries ++ (key, k) ∷ []

-- the part of this number is added, of this file and with this label, where it has one
abbrev pub Adds : ℕ → ℕ → Option Name → Index → Index → Type 0
Adds k file None old new = new ≡ old
Adds k file (Some label) old new =
    (new.first.entries ≡ with_key bytes_eq label k old.first.entries)
    × (new.own.entries ≡ with_key is_same (file, label) k old.own.entries)
