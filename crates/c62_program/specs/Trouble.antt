-- Why words and files make no run, and what is said of that (docs/COMMANDS.md, "Files").
use Rattle.std.specs.Prelude.{◌≡◌, ◌≢◌, ℕ, Bool, true, false, List, [], ◌∷◌, ◌++◌, ◌⊎◌, codes, decimal, length, map, Option, Some, None, if◌then◌else◌}
use Rattle.std.specs.Option.{IsSomeAnd}
use Rattle.std.specs.Borrow.{Bor}
use Rattle.std.specs.Str.{bytes_eq}
use Rattle.clap.specs.Words.{Text}
use Rattle.c62_answer.specs.Message.{Telling, Tells}
use Rattle.c62_files.specs.Call.{From, IsCall, IsMistake, Standard, File, Named, Parts, is_standard, text_source}
use Rattle.c62_command.specs.CommandLine.{asked}
use Rattle.c62_dumping.specs.Counts.{counts_asked}
use Rattle.c62_files.specs.Expand.{Expands, Holding, IsUnexpanded}
use Rattle.c62_files.specs.Words.{text_piece, texts}
use Rattle.c62_files.specs.declared.expand.Unexpanded.{Unexpanded}
use Rattle.c62_files.specs.declared.expand.Unexpanded.TheVariants.{Load, Unread as NotRead}
use Rattle.c62_files.specs.declared.load.Misfit.{Misfit}
use Rattle.c62_files.specs.declared.load.Misfit.TheVariants.{Bad, PastEnd}
use Rattle.c62_files.specs.declared.folder.FileError.{FileError}
use Rattle.c62_files.specs.declared.folder.FileError.TheVariants as failure
use Rattle.c62_files.specs.declared.call.Call.{Call}
use Rattle.c62_files.specs.declared.call.CallError.{CallError}
use Rattle.c62_files.specs.declared.call.CallError.TheVariants as mistake
use Rattle.c62_teach.specs.Words.{plain_words}
use Rattle.c62_program.specs.declared.trouble.Trouble.{Trouble}
use Rattle.c62_program.specs.declared.trouble.Trouble.TheVariants.{NoCall, NoLoad, Unread, Unwritten, LooseDump, Input, Memory}

abbrev pub status_of : Trouble → ℕ
status_of (NoCall mistake.Memory) = 3
status_of (NoCall _) = 2
status_of (NoLoad _ _) = 2
status_of LooseDump = 2
status_of (Unread _ _) = 4
status_of (Unwritten _ _) = 4
status_of Input = 4
status_of Memory = 3

-- ---- where trouble comes from

-- reading the file of this name, or standard input where it is `-`
abbrev pub IsTroubleWith : (name : Text) → Trouble → Type 0
IsTroubleWith name (Unread unread error) = unread.now ≡ name
IsTroubleWith name Input = is_standard name ≡ true
IsTroubleWith name Memory = Unit {0}
IsTroubleWith name _ = ⊥

-- reading what a source names
abbrev pub IsTroubleWithSource : From → Trouble → Type 0
IsTroubleWithSource Standard trouble = IsTroubleWith (codes "-") trouble
IsTroubleWithSource (File name) trouble = IsTroubleWith name trouble
IsTroubleWithSource (Named text listing) trouble = IsTroubleWith (codes "-") trouble
IsTroubleWithSource (Parts text listing) trouble = IsTroubleWith text trouble ⊎ IsTroubleWith listing trouble

-- writing the file of this name
abbrev pub IsTroubleWriting : (name : Text) → Trouble → Type 0
IsTroubleWriting name (Unwritten unwritten error) = unwritten.now ≡ name
IsTroubleWriting name Memory = Unit {0}
IsTroubleWriting name _ = ⊥

-- reading what a source names, or writing the answer
abbrev pub IsTroubleWithRun : From → (target : Option (Bor Text)) → Trouble → Type 0
IsTroubleWithRun source None trouble = IsTroubleWithSource source trouble
IsTroubleWithRun source (Some target) trouble = IsTroubleWithSource source trouble ⊎ IsTroubleWriting target.now trouble

-- or writing the answer alone
abbrev pub IsTroubleWritingTo : (target : Option (Bor Text)) → Trouble → Type 0
IsTroubleWritingTo None trouble = ⊥
IsTroubleWritingTo (Some target) trouble = IsTroubleWriting target.now trouble

abbrev pub IsAmong : Text → List Text → Type 0
IsAmong name [] = ⊥
IsAmong name (other ∷ names) = (name ≡ other) ⊎ IsAmong name names

-- writing memory to files of these names
abbrev pub IsTroubleDumping : (names : List Text) → Trouble → Type 0
IsTroubleDumping names (Unwritten unwritten error) = IsAmong unwritten.now names
IsTroubleDumping names Memory = Unit {0}
IsTroubleDumping names _ = ⊥

-- doing what a call asks for: reading what its source names, writing the answer, or writing memory
abbrev pub IsTroubleWithCall : Call → Trouble → Type 0
IsTroubleWithCall call trouble =
    IsTroubleWithRun (text_source call.source) call.target trouble ⊎ IsTroubleDumping (texts call.dumps.items) trouble

-- what the words ask for writes memory to more or fewer files than so many that are named
abbrev pub IsLoose : (names : ℕ) → List Text → Type 0
IsLoose names words = IsSomeAnd (asked words) (λ ask. length (counts_asked ask) ≢ names)

-- there is trouble with that, or memory ran out
abbrev pub IsCountTrouble : (names : ℕ) → List Text → Trouble → Type 0
IsCountTrouble names words LooseDump = IsLoose names words
IsCountTrouble names words Memory = Unit {0}
IsCountTrouble names words _ = ⊥

-- the file of this name isn't read for this reason
abbrev pub of_reading : Bor Text → FileError → Trouble
of_reading name failure.Memory = Memory
of_reading name (failure.Failed error) = Unread name error

-- a file isn't read for words, or one that is loaded doesn't fit into memory
abbrev pub of_words : Unexpanded → Trouble
of_words (Load number misfit) = NoLoad number misfit
of_words (NotRead unread) = of_reading unread.name unread.error

-- What keeps a call from its end: its words aren't known for a file, one of them stands for `--dump` without a file, or there is trouble
-- with its texts, its answer or files that memory goes to.
pub data HasCallTrouble (holds : Holding) (call : Call) (trouble : Trouble) : Type 0 where
  Expanding : (why : Unexpanded) → IsUnexpanded holds (map text_piece call.words.items) why → trouble ≡ of_words why → HasCallTrouble holds call trouble
  Loose : (words : List Text) → Expands holds (map text_piece call.words.items) words → IsLoose (length call.dumps.items) (plain_words words) → trouble ≡ LooseDump
      → HasCallTrouble holds call trouble
  Running : IsTroubleWithCall call trouble → HasCallTrouble holds call trouble

-- What keeps words from their end: they make no call, or their call doesn't come to its end.
pub data HasTrouble (holds : Holding) (words : List Text) (trouble : Trouble) : Type 0 where
  Mistaken : (error : CallError) → trouble ≡ NoCall error → IsMistake words error → HasTrouble holds words trouble
  Called : (call : Call) → IsCall words call → HasCallTrouble holds call trouble → HasTrouble holds words trouble

-- ---- what is said of it

-- what an option wants behind it
abbrev pub wanted_text : Text → List ℕ
wanted_text option =
    if bytes_eq option (codes "--print") then codes " wants ADDRESS+LENGTH behind it\n"
    else (if bytes_eq option (codes "--dump") then codes " wants ADDRESS+LENGTH=NAME behind it\n"
    else (if bytes_eq option (codes "--base") then codes " wants ADDRESS behind it\n"
    else codes " wants the name of a file behind it\n"))

abbrev pub call_message : CallError → List ℕ
call_message (mistake.NoName option) = codes "error: " ++ option.now ++ wanted_text option.now
call_message (mistake.TooManyInputs name) = codes "error: " ++ name.now ++ codes " is one file more than the command reads\n"
call_message mistake.StandardTwice = codes "error: standard input can't be both the text and the listing\n"
call_message (mistake.TwoOutputs name) = codes "error: " ++ name.now ++ codes " is a second file for the answer\n"
call_message mistake.Memory = codes "memory\n"

-- why a file isn't put into memory
abbrev pub reason_of : Misfit → List ℕ
reason_of Bad = codes "bad"
reason_of PastEnd = codes "past the end"

-- `load 2: past the end`
abbrev pub load_message : ℕ → Misfit → List ℕ
load_message number misfit = codes "load " ++ decimal number ++ codes ": " ++ reason_of misfit ++ codes "\n"

-- a word stands for `--dump`, and no file is named for it
abbrev pub loose_message : List ℕ
loose_message = codes "error: dump= stands for --dump, which names a file\n"

-- of words, of loads, of standard input and of memory; of files it is the system that says why
abbrev pub Says : Telling → Trouble → (old new : Option (List ℕ)) → Type 0
Says Told (NoCall error) old new = Told old new (call_message error)
Says Told (NoLoad number misfit) old new = Told old new (load_message number misfit)
Says Told LooseDump old new = Told old new loose_message
Says Told Input old new = Told old new (codes "input\n")
Says Told Memory old new = Told old new (codes "memory\n")
Says Told _ old new = Unit {0}

-- it comes before a run says anything: where an answer isn't written, the run may have said something
abbrev pub is_early : Trouble → Bool
is_early (NoLoad number misfit) = true
is_early LooseDump = true
is_early Input = true
is_early _ = false

-- what is said of a run then
abbrev pub IsSaid : Trouble → (old new : Option (List ℕ)) → Type 0
IsSaid (NoCall error) old new = Tells old new (call_message error)
IsSaid (NoLoad number misfit) old new = Tells old new (load_message number misfit)
IsSaid LooseDump old new = Tells old new loose_message
IsSaid Input old new = Tells old new (codes "input\n")
IsSaid _ old new = Unit {0}
