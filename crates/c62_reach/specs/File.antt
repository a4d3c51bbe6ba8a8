-- Where the files of a text begin (docs/ADOPT.md, "Parts of a text").
use Rattle.std.specs.Prelude.{ℕ, ◌+◌, Bool, false, ◌&&◌, if◌then◌else◌, List, [], ◌∷◌, codes}
use Rattle.c62_token.specs.Kind.{Word}
use Rattle.c62_token.specs.Number.{spells}
use Rattle.c62_token.specs.Token.{tokens}
use Rattle.c62_adopt_code.specs.Statement.{behind_label, front_of, label_of}

abbrev pub begins_quoted : List Word → Bool
begins_quoted [] = false
begins_quoted (word ∷ words) = spells (codes "\"") word

-- `.file` with a name between quotes; one with a number before the name says which file a table of lines means
abbrev pub names_file : List Word → Bool
names_file [] = false
names_file (name ∷ words) = spells (codes ".file") name && begins_quoted words

-- a line begins a file by what it says, with a label in front or without
abbrev pub begins_file : List ℕ → Bool
begins_file line = names_file (tokens (behind_label (label_of (front_of line)) line))

-- how many files begin above the next line, where so many begin above this one
unfoldable pub files_below : ℕ → List ℕ → ℕ
files_below files line = if begins_file line then files + 1 else files
