-- Which words ask for a trace of a run or for its waveform (docs/TRACE.md), and what they ask for.
use Rattle.std.specs.Prelude.{ℕ, ℤ, pos, int_le, unsigned_abs, length, Bool, true, false, ◌==◌, ◌&&◌, ◌||◌, List, [], ◌∷◌, ◌++◌, fold, codes, Option, Some, None, option_map, option_and_then, if◌then◌else◌}
use Rattle.std.specs.Option.{is_some, is_none, option_map_or, option_to_list, unwrap_or}
use Rattle.std.specs.List.{flat_map}
use Rattle.std.specs.Str.{bytes_eq}
use Rattle.c62_token.specs.Number.{number_of}
use Rattle.c62_files.specs.Words.{Text, equals_parts, has_value, is_of_trace}
use Rattle.c62_files.specs.Call.{is_standard}
use Rattle.c62_tracing.specs.declared.word.Wants.{Wants}
use Rattle.c62_tracing.specs.declared.word.Wants.TheVariants.{Command, Nothing, Value, Vcd, From, Count}
use Rattle.c62_tracing.specs.declared.word.Word.{Word as Written}
use Rattle.c62_tracing.specs.declared.word.Word.TheVariants as written
use Rattle.c62_tracing.specs.declared.words.Destination.{Destination}
use Rattle.c62_tracing.specs.declared.words.Destination.TheVariants as given
use Rattle.c62_tracing.specs.declared.words.Found.{Found}
use Rattle.c62_tracing.specs.declared.words.Tracing.{Tracing}

-- ---- what words are

-- what a word wants of the one behind it
abbrev pub wants_by : Text → Wants
wants_by word =
    if bytes_eq word (codes "--vcd") then Vcd
    else (if bytes_eq word (codes "--from-cycle") then From
    else (if bytes_eq word (codes "--cycles-traced") then Count
    else (if has_value word then Value
    else Nothing)))

-- The first word is the command. The value of an option is none itself.
abbrev pub wants_after : Wants → Text → Wants
wants_after Nothing word = wants_by word
wants_after _ word = Nothing

-- what a word says
pub data Word : Type 0 where
  -- something of the command
  Other : Text → Word
  -- `--trace` or `--trace=FILE`: a trace is written there, and `-` is standard error
  TraceTo : Text → Word
  -- `--vcd FILE`: a waveform is written there
  VcdTo : Text → Word
  -- `--from-cycle N`
  FromCycle : Text → Word
  -- `--cycles-traced N`
  CyclesTraced : Text → Word

abbrev pub text_word : Written → Word
text_word (written.Other word) = Other word.now
text_word (written.Trace name) = TraceTo name.now
text_word (written.Vcd name) = VcdTo name.now
text_word (written.From number) = FromCycle number.now
text_word (written.Count number) = CyclesTraced number.now

-- what `OPTION=VALUE` says
abbrev pub assigned : (word option value : Text) → Word
assigned word option value =
    if bytes_eq option (codes "--trace") then TraceTo value
    else (if bytes_eq option (codes "--vcd") then VcdTo value
    else (if bytes_eq option (codes "--from-cycle") then FromCycle value
    else (if bytes_eq option (codes "--cycles-traced") then CyclesTraced value
    else Other word)))

-- what a word says by itself
abbrev pub lone : Text → Word
lone word =
    if bytes_eq word (codes "--trace") then TraceTo (codes "-")
    else option_map_or (λ parts. assigned word parts.0 parts.1) (equals_parts word) (Other word)

-- what a word says that wants this of the one behind it: an option for a trace that has its value there is nothing without it
abbrev pub wanting : Wants → Text → Option Word
wanting Vcd word = None
wanting From word = None
wanting Count word = None
wanting Value word = Some (Other word)
wanting _ word = Some (lone word)

-- what it says behind one that wants this
abbrev pub word_at : Wants → Text → Option Word
word_at Vcd word = Some (VcdTo word)
word_at From word = Some (FromCycle word)
word_at Count word = Some (CyclesTraced word)
word_at Nothing word = wanting (wants_by word) word
word_at _ word = Some (Other word)

-- what words say, behind one that wants this
unfoldable pub said : Wants → List Text → List Word
said wants [] = []
said wants (word ∷ words) = option_to_list (word_at wants word) ++ said (wants_after wants word) words

-- what the last of them wants
unfoldable pub wanted_at_end : Wants → List Text → Wants
wanted_at_end wants [] = wants
wanted_at_end wants (word ∷ words) = wanted_at_end (wants_after wants word) words

-- ---- whether a trace is asked for

-- an option for a trace
abbrev pub is_option : Text → Bool
is_option word = bytes_eq word (codes "--trace") || is_of_trace word

-- such an option, alone or before a `=`
abbrev pub names_option : Text → Bool
names_option word = is_option word || option_map_or (λ parts. is_option parts.0) (equals_parts word) false

abbrev pub asks_at : Wants → Text → Bool
asks_at Nothing word = names_option word
asks_at _ word = false

-- one of the words is such an option, behind one that wants this
unfoldable pub asks : Wants → List Text → Bool
asks wants [] = false
asks wants (word ∷ words) = if asks_at wants word then true else asks (wants_after wants word) words

-- the commands whose runs are traced
abbrev pub makes_trace : Text → Bool
makes_trace command = bytes_eq command (codes "sim") || bytes_eq command (codes "exec")

-- one of these, and such an option behind it
abbrev pub is_traced : List Text → Bool
is_traced [] = false
is_traced (command ∷ words) = makes_trace command && asks Nothing words

-- ---- the other words

abbrev pub other_in : Word → List Text
other_in (Other word) = word ∷ []
other_in _ = []

-- the words of the command, without those for a trace
abbrev pub other_words : List Text → List Text
other_words words = flat_map other_in (said Command words)

-- ---- what is asked for

-- where a trace goes
pub data To : Type 0 where
  Errors : To
  File : Text → To

abbrev pub text_to : Destination → To
text_to given.Errors = Errors
text_to (given.File name) = File name.now

-- a file has a name, and `-` is standard error
abbrev pub destination_by : Text → Option To
destination_by name = if length name == 0 then None else (if is_standard name then Some Errors else Some (File name))

-- a file has a name, and standard output has none
abbrev pub file_by : Text → Option Text
file_by name = if length name == 0 || is_standard name then None else Some name

-- a number that is no less than this
abbrev pub at_least : (least : ℕ) → ℤ → Option ℕ
at_least least z = if int_le (pos least) z then Some (unsigned_abs z) else None

-- from 0 to 4,294,967,295
abbrev pub from_by : Text → Option ℕ
from_by text = option_and_then (at_least 0) (number_of text)

-- from 1 to 4,294,967,295
abbrev pub count_by : Text → Option ℕ
count_by text = option_and_then (at_least 1) (number_of text)

-- what is asked for, where that is said
pub record Asked : Type 0 where
  pub trace : Option To
  pub vcd : Option Text
  pub from : Option ℕ
  pub count : Option ℕ

abbrev pub asked_in : Found → Asked
asked_in found = record {
  trace = option_map text_to found.trace;
  vcd = option_map (λ name. name.now) found.vcd;
  from = found.from;
  count = found.count;
}

-- each is said once
abbrev pub with_trace : Asked → To → Option Asked
with_trace asked to =
    if is_some asked.trace then None
    else Some (record { trace = Some to; vcd = asked.vcd; from = asked.from; count = asked.count })

abbrev pub with_vcd : Asked → Text → Option Asked
with_vcd asked name =
    if is_some asked.vcd then None
    else Some (record { trace = asked.trace; vcd = Some name; from = asked.from; count = asked.count })

abbrev pub with_from : Asked → ℕ → Option Asked
with_from asked from =
    if is_some asked.from then None
    else Some (record { trace = asked.trace; vcd = asked.vcd; from = Some from; count = asked.count })

abbrev pub with_count : Asked → ℕ → Option Asked
with_count asked count =
    if is_some asked.count then None
    else Some (record { trace = asked.trace; vcd = asked.vcd; from = asked.from; count = Some count })

-- what is asked for with a word more
abbrev pub with_word : Asked → Word → Option Asked
with_word asked (Other word) = Some asked
with_word asked (TraceTo name) = option_and_then (with_trace asked) (destination_by name)
with_word asked (VcdTo name) = option_and_then (with_vcd asked) (file_by name)
with_word asked (FromCycle text) = option_and_then (with_from asked) (from_by text)
with_word asked (CyclesTraced text) = option_and_then (with_count asked) (count_by text)

abbrev pub and_word : Option Asked → Word → Option Asked
and_word asked word = option_and_then (λ a. with_word a word) asked

abbrev pub nothing_asked : Asked
nothing_asked = record { trace = None; vcd = None; from = None; count = None }

-- a trace, a waveform, and the cycles that they show: so many from this one on
pub record Told : Type 0 where
  pub trace : Option To
  pub vcd : Option Text
  pub from : ℕ
  pub count : ℕ

abbrev pub told_in : Tracing → Told
told_in tracing = record {
  trace = option_map text_to tracing.trace;
  vcd = option_map (λ name. name.now) tracing.vcd;
  from = tracing.from;
  count = tracing.count;
}

abbrev pub is_file : To → Text → Bool
is_file Errors name = false
is_file (File other) name = bytes_eq other name

-- both go to one file
abbrev pub are_one_file : Option To → Option Text → Bool
are_one_file (Some to) (Some name) = is_file to name
are_one_file _ _ = false

-- One of them is asked for, and they go to different files. 10,000 cycles from 0 on are shown where nothing else is said.
abbrev pub told_of : Asked → Option Told
told_of asked =
    if is_none asked.trace && is_none asked.vcd then None
    else (if are_one_file asked.trace asked.vcd then None
    else Some (record { trace = asked.trace; vcd = asked.vcd; from = unwrap_or asked.from 0; count = unwrap_or asked.count 10000 }))

-- an option for a trace lacks its value
abbrev pub lacks : Wants → Bool
lacks Vcd = true
lacks From = true
lacks Count = true
lacks _ = false

-- what words ask for, the first of which is the command
abbrev pub tracing_of : List Text → Option Told
tracing_of words =
    if lacks (wanted_at_end Command words) then None
    else option_and_then told_of (fold and_word (Some nothing_asked) (said Command words))
