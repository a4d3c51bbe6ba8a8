-- What the words of `lint` ask for, and which words ask for explanations (docs/FAULTS.md) or for a strict run.
use Rattle.std.specs.Prelude.{ℕ, ◌+◌, ℤ, pos, int_le, nat_eq, nat_le, length, unsigned_abs, Bool, false, ◌&&◌, ◌||◌, List, [], ◌∷◌, ◌++◌, Option, Some, None, is_some, option_map, option_and_then, codes, if◌then◌else◌}
use Rattle.std.specs.List.{flat_map, list_any, starts_with}
use Rattle.std.specs.Str.{bytes_eq}
use Rattle.c62_token.specs.Number.{number_of}
use Rattle.c62_teach.specs.declared.words.Kind.{Kind}
use Rattle.c62_teach.specs.declared.words.Kind.TheVariants.{Serial, Listing, Packets}
use Rattle.c62_teach.specs.declared.words.Linting.{Linting}

abbrev pub Text : Type 0
Text = List ℕ

-- `lint`
abbrev pub is_lint : List Text → Bool
is_lint [] = false
is_lint (command ∷ words) = bytes_eq command (codes "lint")

-- from 1 to 1,000
abbrev pub most_by : ℤ → Option ℕ
most_by z = if int_le (pos 1) z && int_le z (pos 1000) then Some (unsigned_abs z) else None

abbrev pub most_of : Text → Option ℕ
most_of word = option_and_then most_by (number_of word)

abbrev pub kind_of : Text → Option Kind
kind_of word =
    if bytes_eq word (codes "serial") then Some Serial
    else (if bytes_eq word (codes "listing") then Some Listing
    else (if bytes_eq word (codes "packets") then Some Packets
    else None))

abbrev pub with_most : Linting → ℕ → Linting
with_most linting most = record { kind = linting.kind; most = most; json = linting.json }

abbrev pub with_kind : Linting → Kind → Linting
with_kind linting kind = record { kind = kind; most = linting.most; json = linting.json }

-- `--most N`, or `--as KIND`
abbrev pub changed : Linting → (option value : Text) → Option Linting
changed linting option value =
    if bytes_eq option (codes "--most") then option_map (with_most linting) (most_of value)
    else (if bytes_eq option (codes "--as") then option_map (with_kind linting) (kind_of value)
    else None)

-- 100 faults of a serial text, where nothing is said
abbrev pub default : Linting
default = record { kind = Serial; most = 100; json = false }

-- what is wanted behind a first option: a second one may follow, and of two alike that stands
abbrev pub behind_first : Linting → List Text → Option Linting
behind_first linting [] = Some linting
behind_first linting (option ∷ value ∷ []) = changed linting option value
behind_first linting _ = None

-- what the words behind `lint` want
unfoldable pub linting_by : List Text → Option Linting
linting_by [] = Some default
linting_by (option ∷ value ∷ words) = option_and_then (λ linting. behind_first linting words) (changed default option value)
linting_by _ = None

-- `--json`
abbrev pub is_json : Text → Bool
is_json word = bytes_eq word (codes "--json")

abbrev pub other_word : Text → List Text
other_word word = if is_json word then [] else word ∷ []

-- the other words
abbrev pub other_words : List Text → List Text
other_words words = flat_map other_word words

abbrev pub as_json : Bool → Linting → Linting
as_json json linting = record { kind = linting.kind; most = linting.most; json = json }

-- what the words behind `lint` want, among which `--json` stands at most once, anywhere
unfoldable pub linting_behind : List Text → Option Linting
linting_behind words =
    if nat_le (length words) (length (other_words words) + 1) then option_map (as_json (list_any is_json words)) (linting_by (other_words words))
    else None

abbrev pub linting_of : List Text → Option Linting
linting_of [] = None
linting_of (command ∷ words) = linting_behind words

-- the values that an option takes
abbrev pub values_of : Text → Option Text
values_of option =
    if bytes_eq option (codes "--as") then Some (codes "'serial', 'listing' or 'packets'")
    else (if bytes_eq option (codes "--most") then Some (codes "1 to 1000")
    else None)

-- the first option that asks for nothing, with its value, which is empty where none follows
unfoldable pub first_bad : List Text → Option (Text × Text)
first_bad [] = None
first_bad (option ∷ []) = Some (option, [])
first_bad (option ∷ value ∷ words) = if is_some (changed default option value) then first_bad words else Some (option, value)

unfoldable pub takes_no : List ℕ
takes_no = codes "error: lint takes no '"

unfoldable pub unknown : (option : Text) → List ℕ
unknown option = takes_no ++ option ++ codes "'\n\n"

unfoldable pub ill_valued : (option values value : Text) → List ℕ
ill_valued option values value = codes "error: '" ++ option ++ codes "' takes " ++ values ++ codes ", not '" ++ value ++ codes "'\n\n"

-- what is wrong with an option that takes these values, or none, and its value
abbrev pub wrong : (option value : Text) → Option Text → List ℕ
wrong option value None = unknown option
wrong option value (Some values) = ill_valued option values value

abbrev pub is_help : Text → Bool
is_help word = bytes_eq word (codes "--help") || bytes_eq word (codes "-h")

abbrev pub blame_of : Option (Text × Text) → List ℕ
blame_of None = codes "error: an option is given too often\n\n"
blame_of (Some bad) = if is_help bad.0 then [] else wrong bad.0 bad.1 (values_of bad.0)

-- the same of at most 1,000 words: of more an option is given too often
abbrev pub bad_among : List Text → Option (Text × Text)
bad_among words = if nat_le (length words) 1000 then first_bad words else None

-- what is wrong with words of `lint` that want nothing: no text where they ask for help
abbrev pub lint_blame : List Text → List ℕ
lint_blame [] = []
lint_blame (command ∷ words) = blame_of (bad_among (other_words words))

-- ---- `--explain`

-- the commands that read a text
abbrev pub is_answered : Text → Bool
is_answered command =
    bytes_eq command (codes "pack") || bytes_eq command (codes "show") || bytes_eq command (codes "run") || bytes_eq command (codes "serial")
    || bytes_eq command (codes "sim") || bytes_eq command (codes "exec") || bytes_eq command (codes "adopt") || bytes_eq command (codes "check")

abbrev pub explains : List Text → Bool
explains words = list_any (λ word. bytes_eq word (codes "--explain")) words

-- a command that reads a text, and `--explain` behind it
abbrev pub is_explained : List Text → Bool
is_explained [] = false
is_explained (command ∷ words) = is_answered command && explains words

abbrev pub plain_word : Text → List Text
plain_word word = if bytes_eq word (codes "--explain") then [] else word ∷ []

-- the words without it
abbrev pub plain_words : List Text → List Text
plain_words words = flat_map plain_word words

-- ---- `--strict`

-- the commands that run a text
abbrev pub makes_run : Text → Bool
makes_run command =
    bytes_eq command (codes "run") || bytes_eq command (codes "serial") || bytes_eq command (codes "sim") || bytes_eq command (codes "exec")

abbrev pub asks_strict : List Text → Bool
asks_strict words = list_any (λ word. bytes_eq word (codes "--strict")) words

-- one of these, and `--strict` behind it
abbrev pub is_strict : List Text → Bool
is_strict [] = false
is_strict (command ∷ words) = makes_run command && asks_strict words

-- ---- memory

-- `--print`, `--dump` or `--base` stands for this setting
abbrev pub is_of_memory : Text → Bool
is_of_memory word =
    starts_with nat_eq word (codes "print=") || starts_with nat_eq word (codes "dump=") || starts_with nat_eq word (codes "base=")

-- such a word is among these
abbrev pub names_memory : List Text → Bool
names_memory words = list_any is_of_memory words

-- ---- `--apart`

-- `--apart`, or `--apart=REG,REG,..`
abbrev pub names_apart : Text → Bool
names_apart word = starts_with nat_eq word (codes "--apart")

abbrev pub asks_apart : List Text → Bool
asks_apart words = list_any names_apart words

-- a serial run, and such a word behind it
abbrev pub is_watched : List Text → Bool
is_watched [] = false
is_watched (command ∷ words) = bytes_eq command (codes "serial") && asks_apart words
