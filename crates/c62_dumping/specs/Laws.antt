-- The files that memory goes to, with what they hold then (docs/COMMANDS.md, "Files").
use Rattle.std.specs.Prelude.{ℕ, List, [], ◌∷◌}
use Rattle.std.specs.List.{flat_map}
use Rattle.c62_command.specs.declared.setting.Setting.{Setting as Given}
use Rattle.c62_command.specs.declared.setting.Setting.TheVariants as given
use Rattle.c62_printing.specs.Dumping.{bytes_at}
use Rattle.c62_serial.specs.State.{Machine}
use Rattle.c62_files.specs.Words.{Text}

-- the memory that a setting writes to a file, where it does
abbrev pub memory_in : Machine → Given → List (List ℕ)
memory_in machine (given.Dump dump) = bytes_at machine dump.place dump.count ∷ []
memory_in machine _ = []

-- the first of these names with the first of these contents, and so on
abbrev pub named : List Text → List (List ℕ) → List (Text × List ℕ)
named (name ∷ names) (bytes ∷ contents) = (name, bytes) ∷ named names contents
named _ _ = []

-- the memory of each setting that asks for a file goes to the file whose turn it is
abbrev pub memory_files : List Text → Machine → List Given → List (Text × List ℕ)
memory_files names machine settings = named names (flat_map (memory_in machine) settings)
