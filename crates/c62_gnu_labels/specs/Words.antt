-- Which words ask for labels that begin with a dot (docs/COMMANDS.md, "Options").
use Rattle.std.specs.Prelude.{ℕ, Bool, true, false, ◌||◌, ◌&&◌, List, [], ◌∷◌, ◌++◌, fold, nat_eq, codes, Option, Some, None, if◌then◌else◌}
use Rattle.std.specs.List.{starts_with}
use Rattle.std.specs.Str.{bytes_eq}
use Rattle.c62_gnu_labels.specs.declared.words.Found.{Found}
use Rattle.c62_gnu_labels.specs.declared.words.Found.TheVariants.{Unsaid, Open, Said, Bad}

abbrev pub Text : Type 0
Text = List ℕ

-- what a word says by itself: `--labels`, alone or with a value behind a `=`
abbrev pub found_by : Text → Found
found_by word =
    if bytes_eq word (codes "--labels") then Open
    else (if bytes_eq word (codes "--labels=gnu") then Said
    else (if starts_with nat_eq word (codes "--labels=") then Bad
    else Unsaid))

-- it is said once
abbrev pub once : Found → Found
once Unsaid = Said
once found = Bad

-- what words say with this one more
abbrev pub found_after : Found → Text → Found
found_after Unsaid word = found_by word
found_after Open word = if bytes_eq word (codes "gnu") then Said else Bad
found_after Said word = once (found_by word)
found_after Bad word = Bad

abbrev pub found_in : List Text → Found
found_in words = fold found_after Unsaid words

abbrev pub is_unsaid : Found → Bool
is_unsaid Unsaid = true
is_unsaid found = false

-- the commands that read serial text
abbrev pub reads_serial : Text → Bool
reads_serial command =
    bytes_eq command (codes "pack") || bytes_eq command (codes "show") || bytes_eq command (codes "run") || bytes_eq command (codes "serial")
    || bytes_eq command (codes "check") || bytes_eq command (codes "lint")

-- one of these, and the option behind it
abbrev pub asks_labels : List Text → Bool
asks_labels [] = false
asks_labels (command ∷ words) = reads_serial command && (if is_unsaid (found_in (command ∷ words)) then false else true)

-- ---- the other words

-- a word behind those that say this is one of the command
abbrev pub is_other : Found → Text → Bool
is_other Unsaid word = is_unsaid (found_by word)
is_other Said word = is_unsaid (found_by word)
is_other found word = false

abbrev pub other_in : Found → Text → List Text
other_in found word = if is_other found word then word ∷ [] else []

-- the words of the command, behind words that say this
unfoldable pub left_behind : Found → List Text → List Text
left_behind found [] = []
left_behind found (word ∷ words) = other_in found word ++ left_behind (found_after found word) words

abbrev pub left_in : List Text → List Text
left_in words = left_behind Unsaid words

abbrev pub left_by : Found → List Text → Option (List Text)
left_by Said words = Some (left_in words)
left_by found words = None

-- the words but those that ask for labels, where these say it rightly
abbrev pub other_words : List Text → Option (List Text)
other_words words = left_by (found_in words) words
