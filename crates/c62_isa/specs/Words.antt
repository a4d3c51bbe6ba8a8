-- Which words ask for a set of instructions (docs/COMMANDS.md, "Options"), and for which.
use Rattle.std.specs.Prelude.{Bool, true, false, ◌||◌, ◌&&◌, List, [], ◌∷◌, ◌++◌, fold, codes, Option, Some, None, option_map, option_and_then, if◌then◌else◌}
use Rattle.std.specs.Option.{option_map_or, option_to_list, unwrap_or}
use Rattle.std.specs.List.{flat_map}
use Rattle.std.specs.Str.{bytes_eq}
use Rattle.c62_op.specs.declared.set.InstructionSet.{InstructionSet}
use Rattle.c62_op.specs.declared.set.InstructionSet.TheVariants.{Core, Full}
use Rattle.c62_files.specs.Words.{Text, equals_parts, has_value}
use Rattle.c62_isa.specs.declared.word.Wants.{Wants}
use Rattle.c62_isa.specs.declared.word.Wants.TheVariants.{Command, Nothing, Value, Set}
use Rattle.c62_isa.specs.declared.word.Word.{Word as Written}
use Rattle.c62_isa.specs.declared.word.Word.TheVariants as written

-- ---- what words are

abbrev pub is_isa : Text → Bool
is_isa word = bytes_eq word (codes "--isa")

-- what a word wants of the one behind it
abbrev pub wants_by : Text → Wants
wants_by word =
    if is_isa word then Set
    else (if has_value word then Value
    else Nothing)

-- The first word is the command. The value of an option is none itself.
abbrev pub wants_after : Wants → Text → Wants
wants_after Nothing word = wants_by word
wants_after _ word = Nothing

-- what a word says
pub data Word : Type 0 where
  -- something of the command
  Other : Text → Word
  -- `--isa NAME` or `--isa=NAME`: the set of this name
  Named : Text → Word

abbrev pub text_word : Written → Word
text_word (written.Other word) = Other word.now
text_word (written.Set name) = Named name.now

-- what `OPTION=VALUE` says
abbrev pub assigned : (word option value : Text) → Word
assigned word option value = if is_isa option then Named value else Other word

-- what a word says by itself
abbrev pub lone : Text → Word
lone word = option_map_or (λ parts. assigned word parts.0 parts.1) (equals_parts word) (Other word)

-- what a word says that wants this of the one behind it: `--isa` is nothing without it
abbrev pub wanting : Wants → Text → Option Word
wanting Set word = None
wanting Value word = Some (Other word)
wanting _ word = Some (lone word)

-- what it says behind one that wants this
abbrev pub word_at : Wants → Text → Option Word
word_at Set word = Some (Named word)
word_at Nothing word = wanting (wants_by word) word
word_at _ word = Some (Other word)

-- what words say, behind one that wants this
unfoldable pub said : Wants → List Text → List Word
said wants [] = []
said wants (word ∷ words) = option_to_list (word_at wants word) ++ said (wants_after wants word) words

-- what the last of them wants
unfoldable pub wanted_at_end : Wants → List Text → Wants
wanted_at_end wants [] = wants
wanted_at_end wants (word ∷ words) = wanted_at_end (wants_after wants word) words

-- ---- whether a set is asked for

-- `--isa`, alone or before a `=`
abbrev pub names_option : Text → Bool
names_option word = is_isa word || option_map_or (λ parts. is_isa parts.0) (equals_parts word) false

abbrev pub asks_at : Wants → Text → Bool
asks_at Nothing word = names_option word
asks_at _ word = false

-- one of the words is this option, behind one that wants this
unfoldable pub asks : Wants → List Text → Bool
asks wants [] = false
asks wants (word ∷ words) = if asks_at wants word then true else asks (wants_after wants word) words

-- the commands that read a text or packets
abbrev pub reads_text : Text → Bool
reads_text command =
    bytes_eq command (codes "pack") || bytes_eq command (codes "show") || bytes_eq command (codes "run") || bytes_eq command (codes "serial")
    || bytes_eq command (codes "sim") || bytes_eq command (codes "exec") || bytes_eq command (codes "adopt")
    || bytes_eq command (codes "check") || bytes_eq command (codes "lint")

-- one of these, and the option behind it
abbrev pub asks_set : List Text → Bool
asks_set [] = false
asks_set (command ∷ words) = reads_text command && asks Nothing words

-- ---- the other words

abbrev pub other_in : Word → List Text
other_in (Other word) = word ∷ []
other_in _ = []

-- the words of the command, without those for a set
abbrev pub other_words : List Text → List Text
other_words words = flat_map other_in (said Command words)

-- ---- which set is asked for

abbrev pub set_named : Text → Option InstructionSet
set_named name =
    if bytes_eq name (codes "core") then Some Core
    else (if bytes_eq name (codes "full") then Some Full
    else None)

-- it is said once
abbrev pub with_set : Option InstructionSet → Text → Option (Option InstructionSet)
with_set (Some set) name = None
with_set None name = option_map Some (set_named name)

-- what is asked for with a word more
abbrev pub with_word : Option InstructionSet → Word → Option (Option InstructionSet)
with_word asked (Other word) = Some asked
with_word asked (Named name) = with_set asked name

abbrev pub and_word : Option (Option InstructionSet) → Word → Option (Option InstructionSet)
and_word asked word = option_and_then (λ a. with_word a word) asked

-- `--isa` lacks its value
abbrev pub lacks : Wants → Bool
lacks Set = true
lacks _ = false

-- the set that words ask for, the first of which is the command: the core where they ask for none
abbrev pub asked_set : List Text → Option InstructionSet
asked_set words =
    if lacks (wanted_at_end Command words) then None
    else option_map (λ asked. unwrap_or asked Core) (fold and_word (Some None) (said Command words))
