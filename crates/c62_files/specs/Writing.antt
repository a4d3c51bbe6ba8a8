-- Files that are written one after the other (docs/COMMANDS.md, "Files").
use Rattle.std.specs.Prelude.{◌≡◌, ◌≢◌, ◌⊎◌, ℕ, List, [], ◌∷◌, Option, IfSome}
use Rattle.c62_files.specs.Words.{Text}
use Rattle.c62_files.specs.declared.writing.Output.{Output}

-- what files hold by their names, where that is known
abbrev pub Holding : Type 0
Holding = Text → Option (List ℕ)

-- the file of this name holds these bytes then, where that is known, and all others what they held
abbrev pub IsReplaced : (before : Holding) → (name : Text) → (bytes : List ℕ) → (after : Holding) → Type 0
IsReplaced before name bytes after = IfSome (after name) (λ all. all ≡ bytes) × ((other : Text) → other ≢ name → after other ≡ before other)

-- The file of this name holds then what a sheet holds, where both are known, and all others what they held.
abbrev pub IsFinished : (before : Holding) → (name : Text) → (sheet : Option (List ℕ)) → (after : Holding) → Type 0
IsFinished before name sheet after =
    IfSome (after name) (λ all. IfSome sheet (λ bytes. all ≡ bytes)) × ((other : Text) → other ≢ name → after other ≡ before other)

-- the name of a file, and what it is to hold
abbrev pub text_output : Output → Text × List ℕ
text_output file = (file.name.now, file.bytes.now)

-- these files are written, in their order
unfoldable pub AreWritten : (before : Holding) → List (Text × List ℕ) → (after : Holding) → Type 0
AreWritten before [] after = after ≡ before
AreWritten before (file ∷ files) after = (between : Holding) × IsReplaced before file.0 file.1 between × AreWritten between files after

-- none of them is written, or the first few are
unfoldable pub AreBegun : (before : Holding) → List (Text × List ℕ) → (after : Holding) → Type 0
AreBegun before [] after = after ≡ before
AreBegun before (file ∷ files) after =
    (after ≡ before) ⊎ ((between : Holding) × IsReplaced before file.0 file.1 between × AreBegun between files after)

-- the files before the one of this name are written, and that one and those behind it are what they were
unfoldable pub StopsAt : (before : Holding) → List (Text × List ℕ) → (name : Text) → (after : Holding) → Type 0
StopsAt before [] name after = ⊥
StopsAt before (file ∷ files) name after = ((after ≡ before) × (name ≡ file.0))
    ⊎ ((between : Holding) × IsReplaced before file.0 file.1 between × StopsAt between files name after)

-- one of the files has this name
abbrev pub IsNameIn : Text → List (Text × List ℕ) → Type 0
IsNameIn name [] = ⊥
IsNameIn name (file ∷ files) = (name ≡ file.0) ⊎ IsNameIn name files
