-- Where the text of a call comes from, and where its answer goes to (docs/COMMANDS.md, "Files").
use Rattle.std.specs.Prelude.{◌≡◌, ℕ, Bool, ◌&&◌, List, [], ◌∷◌, map, codes, Option, Some, None, option_map, slice_get, if◌then◌else◌}
use Rattle.std.specs.Str.{bytes_eq}
use Rattle.c62_files.specs.Words.{Text, all_pieces, dumps, inputs, option_of, outputs, text_piece, texts, wants_more}
use Rattle.c62_files.specs.declared.call.Source.{Source}
use Rattle.c62_files.specs.declared.call.Source.TheVariants as given
use Rattle.c62_files.specs.declared.call.Call.{Call}
use Rattle.c62_files.specs.declared.call.CallError.{CallError}
use Rattle.c62_files.specs.declared.call.CallError.TheVariants.{NoName, TooManyInputs, StandardTwice, TwoOutputs, Memory}

-- where a text comes from
pub data From : Type 0 where
  Standard : From
  File : Text → From
  -- standard input, whose text and listing are called by these names
  Named : (text listing : Text) → From
  -- a text, and a listing that is held against it
  Parts : (text listing : Text) → From

abbrev pub text_source : Source → From
text_source given.Standard = Standard
text_source (given.File name) = File name.now
text_source (given.Named text listing) = Named text.now listing.now
text_source (given.Parts text listing) = Parts text.now listing.now

abbrev pub is_standard : Text → Bool
is_standard name = bytes_eq name (codes "-")

-- how many files a command reads: a check two, and others one
abbrev pub most_inputs : Text → ℕ
most_inputs command = if bytes_eq command (codes "check") then 2 else 1

-- the source that these names are: none, one, or two of which not both are standard input
unfoldable pub source_in : List Text → Option From
source_in [] = Some Standard
source_in (name ∷ []) = Some (if is_standard name then Standard else File name)
source_in (text ∷ listing ∷ names) = if is_standard text && is_standard listing then None else Some (Parts text listing)

abbrev pub most_of : List Text → ℕ
most_of [] = 1
most_of (command ∷ words) = most_inputs command

-- the file that the answer goes to, where one is named and that isn't `-`
unfoldable pub target_in : List Text → Option Text
target_in [] = None
target_in (name ∷ names) = if is_standard name then None else Some name

-- what words ask for: what they are, one source, at most one file for the answer, and files for memory
pub record IsCall (words : List Text) (call : Call) : Type 0 where
  pub pieces : map text_piece call.words.items ≡ all_pieces words
  pub whole : option_of (wants_more words) ≡ None
  pub few : slice_get (inputs words) (most_of words) ≡ None
  pub source : source_in (inputs words) ≡ Some (text_source call.source)
  pub single : slice_get (outputs words) 1 ≡ None
  pub target : option_map (λ name. name.now) call.target ≡ target_in (outputs words)
  pub dumped : texts call.dumps.items ≡ dumps words

-- why words ask for nothing, unless memory ran out
abbrev pub IsMistake : List Text → CallError → Type 0
IsMistake words (NoName option) = option_of (wants_more words) ≡ Some option.now
IsMistake words (TooManyInputs name) = slice_get (inputs words) (most_of words) ≡ Some name.now
IsMistake words StandardTwice = source_in (inputs words) ≡ None
IsMistake words (TwoOutputs name) = slice_get (outputs words) 1 ≡ Some name.now
IsMistake words Memory = Unit {0}

-- the same of the names for the source alone, of which there may be so many
abbrev pub IsSourceMistake : (most : ℕ) → (names : List Text) → CallError → Type 0
IsSourceMistake most names (TooManyInputs name) = slice_get names most ≡ Some name.now
IsSourceMistake most names StandardTwice = source_in names ≡ None
IsSourceMistake most names _ = ⊥

-- and of the names of files for the answer
abbrev pub IsTargetMistake : (names : List Text) → CallError → Type 0
IsTargetMistake names (TwoOutputs name) = slice_get names 1 ≡ Some name.now
IsTargetMistake names _ = ⊥
