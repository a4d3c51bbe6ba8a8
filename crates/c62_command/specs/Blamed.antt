-- The setting that a refusal blames (docs/COMMANDS.md, "Settings").
use Rattle.std.specs.Prelude.{ℕ, ◌-◌, List, [], ◌∷◌, Option, Some, None, slice_get}
use Rattle.clap.specs.Words.{Kinds, Row, Text, fault_of, subcommand_of}
use Rattle.c62_command.specs.CommandLine.{setting_words, tool_app}
use Rattle.c62_command.specs.Settings.{base_among}

-- the words that are to be settings of a subcommand
abbrev pub settings_among : Option (Text × List Row) → List Text
settings_among None = []
settings_among (Some (name, rows)) = setting_words rows

-- where clap takes the words
abbrev pub if_taken : {A : Type 0} → Kinds → Option A → Option A
if_taken [] found = found
if_taken (kind ∷ kinds) found = None

-- where memory begins by the settings of the words, where clap takes these
abbrev pub base_given : List Text → Option ℕ
base_given words = if_taken (fault_of tool_app words) (Some (base_among (settings_among (subcommand_of tool_app words))))

-- the word that is to be setting k, from 1
abbrev pub setting_at : List Text → ℕ → Option Text
setting_at words k = if_taken (fault_of tool_app words) (slice_get (settings_among (subcommand_of tool_app words)) (k - 1))
