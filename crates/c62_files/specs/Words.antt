-- Which words of the command line name files (docs/COMMANDS.md, "Files").
use Rattle.std.specs.Prelude.{ℕ, ◌+◌, Bool, true, false, not, ◌==◌, ◌||◌, List, [], ◌∷◌, ◌++◌, map, take, drop, length, codes, Option, Some, None, option_map, if◌then◌else◌}
use Rattle.std.specs.List.{list_any, flat_map, position}
use Rattle.std.specs.Option.{option_map_or, option_to_list}
use Rattle.std.specs.Str.{bytes_eq}
use Rattle.std.specs.Borrow.{Bor}
use Rattle.c62_files.specs.declared.wanted.Wanted.{Wanted}
use Rattle.c62_files.specs.declared.wanted.Wanted.TheVariants.{Command, Nothing, Value, Output, Settings, Load, Print, Dump, Base, Help}
use Rattle.c62_files.specs.declared.piece.Piece.{Piece}
use Rattle.c62_files.specs.declared.piece.Piece.TheVariants as given

abbrev pub Text : Type 0
Text = List ℕ

-- the texts of words
abbrev pub texts : List (Bor Text) → List Text
texts words = map (λ word. word.now) words

-- an option of a trace whose value is the word behind it
abbrev pub is_of_trace : Text → Bool
is_of_trace word = bytes_eq word (codes "--vcd") || bytes_eq word (codes "--from-cycle") || bytes_eq word (codes "--cycles-traced")

-- an option of a command whose value is the word behind it
abbrev pub takes_value : Text → Bool
takes_value word =
    bytes_eq word (codes "--eject") || bytes_eq word (codes "--search") || bytes_eq word (codes "--blocks") || bytes_eq word (codes "--cycles")
    || bytes_eq word (codes "--from") || bytes_eq word (codes "--most") || bytes_eq word (codes "--as")
    || bytes_eq word (codes "--trips") || bytes_eq word (codes "--apart")
    || is_of_trace word

-- what a word wants of the one behind it
abbrev pub wanted_by : Text → Wanted
wanted_by word =
    if bytes_eq word (codes "-o") then Output
    else (if bytes_eq word (codes "--settings") then Settings
    else (if bytes_eq word (codes "--load") then Load
    else (if bytes_eq word (codes "--print") then Print
    else (if bytes_eq word (codes "--dump") then Dump
    else (if bytes_eq word (codes "--base") then Base
    else (if takes_value word then Value
    else Nothing))))))

abbrev pub is_value : Wanted → Bool
is_value Command = false
is_value Nothing = false
is_value Help = false
is_value _ = true

-- the word behind this one is the value of an option
unfoldable pub has_value : Text → Bool
has_value word = is_value (wanted_by word)

-- what the command wants: behind `help` no word names a file
abbrev pub wanted_by_command : Text → Wanted
wanted_by_command command = if bytes_eq command (codes "help") then Help else Nothing

-- the option that wants a word of its own: the name of a file, what is printed or goes to a file, or where memory begins
abbrev pub option_of : Wanted → Option Text
option_of Output = Some (codes "-o")
option_of Settings = Some (codes "--settings")
option_of Load = Some (codes "--load")
option_of Print = Some (codes "--print")
option_of Dump = Some (codes "--dump")
option_of Base = Some (codes "--base")
option_of _ = None

-- A file's name is no option, which begins with `-`, and no setting, which has a `=`. A lone `-` is standard input.
unfoldable pub is_name : Text → Bool
is_name [] = false
is_name (first ∷ rest) = if first == 45 then length rest == 0 else not (list_any (λ b. b == 61) (first ∷ rest))

-- what a word is
pub data Word : Type 0 where
  -- one for the command itself
  Plain : Text → Word
  -- the name of the file that the text is in, or `-`
  InputName : Text → Word
  -- the name of the file that the answer goes to
  OutputName : Text → Word
  -- the name of a file whose words stand here
  SettingsName : Text → Word
  -- an address and the name of a file whose bytes are put there
  Loads : Text → Word
  -- an address and a length of memory that is printed
  Prints : Text → Word
  -- an address and a length of memory, and the name of the file that it goes to
  Dumps : Text → Word
  -- the address at which memory begins
  Begins : Text → Word

abbrev pub text_piece : Piece → Word
text_piece (given.Plain word) = Plain word.now
text_piece (given.Input name) = InputName name.now
text_piece (given.Output name) = OutputName name.now
text_piece (given.Settings name) = SettingsName name.now
text_piece (given.Load word) = Loads word.now
text_piece (given.Print word) = Prints word.now
text_piece (given.Dump word) = Dumps word.now
text_piece (given.Base word) = Begins word.now

-- what a word is by itself
abbrev pub lone : Text → Word
lone word = if is_name word then InputName word else Plain word

-- what a word is that wants this of the one behind it: an option that wants a word of its own is nothing without it
abbrev pub wanting : Wanted → Text → Option Word
wanting Output word = None
wanting Settings word = None
wanting Load word = None
wanting Print word = None
wanting Dump word = None
wanting Base word = None
wanting Value word = Some (Plain word)
wanting _ word = Some (lone word)

-- what a word is, behind one that wants this
abbrev pub piece_at : Wanted → Text → Option Word
piece_at Output word = Some (OutputName word)
piece_at Settings word = Some (SettingsName word)
piece_at Load word = Some (Loads word)
piece_at Print word = Some (Prints word)
piece_at Dump word = Some (Dumps word)
piece_at Base word = Some (Begins word)
piece_at Nothing word = wanting (wanted_by word) word
piece_at _ word = Some (Plain word)

-- what it wants itself
abbrev pub wanted_after : Wanted → Text → Wanted
wanted_after Command word = wanted_by_command word
wanted_after Help word = Help
wanted_after Nothing word = wanted_by word
wanted_after _ word = Nothing

-- what words are, behind one that wants this
unfoldable pub pieces : Wanted → List Text → List Word
pieces wanted [] = []
pieces wanted (word ∷ words) = option_to_list (piece_at wanted word) ++ pieces (wanted_after wanted word) words

-- what the last of them wants
unfoldable pub wanted_at_end : Wanted → List Text → Wanted
wanted_at_end wanted [] = wanted
wanted_at_end wanted (word ∷ words) = wanted_at_end (wanted_after wanted word) words

-- what all words are: the first is the command
abbrev pub all_pieces : List Text → List Word
all_pieces words = pieces Command words

-- what the last of them wants
abbrev pub wants_more : List Text → Wanted
wants_more words = wanted_at_end Command words

-- the name of a file that a text is in
abbrev pub input_in : Word → List Text
input_in (InputName name) = name ∷ []
input_in _ = []

-- the name of a file that the answer goes to
abbrev pub output_in : Word → List Text
output_in (OutputName name) = name ∷ []
output_in _ = []

-- the names of files that texts are in
abbrev pub inputs : List Text → List Text
inputs words = flat_map input_in (all_pieces words)

-- the names of files that the answer goes to
abbrev pub outputs : List Text → List Text
outputs words = flat_map output_in (all_pieces words)

-- ---- memory that goes to files

-- what stands before the first `=` of a word, and what stands behind it
abbrev pub equals_parts : Text → Option (Text × Text)
equals_parts word = option_map (λ k. (take k word, drop (k + 1) word)) (position (λ b. b == 61) word)

-- `ADDRESS+LENGTH` of `ADDRESS+LENGTH=NAME`, and nothing where there is no name
abbrev pub extent_of : Text → Text
extent_of word = option_map_or (λ parts. parts.0) (equals_parts word) []

-- the name of the file
abbrev pub name_of : Text → Option Text
name_of word = option_map (λ parts. parts.1) (equals_parts word)

-- the name of a file that memory goes to
abbrev pub dump_in : Word → List Text
dump_in (Dumps word) = option_to_list (name_of word)
dump_in _ = []

-- the names of files that memory goes to
abbrev pub dumps : List Text → List Text
dumps words = flat_map dump_in (all_pieces words)
