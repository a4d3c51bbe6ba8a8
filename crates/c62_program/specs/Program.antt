-- What the program does to files and streams (docs/COMMANDS.md, "Files").
use Rattle.std.specs.Prelude.{◌≡◌, ◌≢◌, ◌⊎◌, ℕ, ◌+◌, ◌==◌, ◌&&◌, ◌||◌, nat_le, Bool, true, false, List, [], ◌∷◌, ◌++◌, length, map, take, codes, Option, Some, None, IfSome, is_some, if◌then◌else◌}
use Rattle.std.specs.Option.{IsSomeAnd, option_map_or}
use Rattle.std.specs.Io.KnownBytes.{Keeps}
use Rattle.std.specs.Borrow.{Bor}
use Rattle.clap.specs.Words.{Text}
use Rattle.c62_answer.specs.Message.{Tells}
use Rattle.c62_answer.specs.Run.{Streams, IsRun, streams}
use Rattle.c62_answer.specs.declared.parting.TheConstants.{MOST_BYTES}
use Rattle.c62_command.specs.Blamed.{setting_at}
use Rattle.c62_command.specs.CommandLine.{Ask, IsRefusal, ask_told, asked}
use Rattle.c62_command.specs.declared.command.CommandError.{CommandError}
use Rattle.c62_command.specs.declared.command.CommandError.TheVariants.{Memory, Setting}
use Rattle.c62_dumping.specs.Counts.{counts_asked}
use Rattle.c62_dumping.specs.Cut.{dumped_in, files_of, report_in}
use Rattle.c62_dumping.specs.Limit.{limit_note, limit_said}
use Rattle.c62_files.specs.Words.{dumps, text_piece, texts}
use Rattle.c62_files.specs.Expand.{Expands, Holding}
use Rattle.c62_files.specs.Writing.{AreBegun, AreWritten, IsReplaced}
use Rattle.c62_files.specs.Call.{From, Standard, File, Named, Parts, is_standard, text_source}
use Rattle.c62_files.specs.declared.call.Call.{Call}
use Rattle.c62_teach.specs.declared.words.Linting.{Linting}
use Rattle.c62_teach.specs.Words.{is_explained, is_lint, is_of_memory, is_strict, is_watched, lint_blame, linting_of, names_memory, plain_words}
use Rattle.c62_teach.specs.Linted.{IsLinted}
use Rattle.c62_teach.specs.Setting.{setting_taught}
use Rattle.c62_program.specs.Joined.{IsJoined}
use Rattle.c62_program.specs.Teaching.{AreToldOf, IsLintRun, RunsMore, behind_text, behind_words, status_with, text_name}
use Rattle.c62_program.specs.Written.{IsWritten}
use Rattle.c62_program.specs.declared.page.TheConstants.{LINT}
use Rattle.c62_program.specs.declared.dumping.Kept.{Kept}
use Rattle.c62_program.specs.declared.teaching.Asked.{Asked}
use Rattle.c62_program.specs.declared.teaching.Asked.TheVariants.{Known, Unknown}
use Rattle.c62_program.specs.Trouble.{HasCallTrouble, HasTrouble, IsSaid, status_of}
use Rattle.c62_program.specs.declared.trouble.Trouble.{Trouble}
use Rattle.c62_op.specs.declared.set.InstructionSet.{InstructionSet}

-- what a name stands for, where that is known: standard input or a file
abbrev pub held : Holding → (input : Option (List ℕ)) → Text → Option (List ℕ)
held holds input name = if is_standard name then input else holds name

-- the bytes are those that a name stands for, as far as one byte past the limit of all texts
abbrev pub IsHeld : Holding → (input : Option (List ℕ)) → Text → List ℕ → Type 0
IsHeld holds input name bytes = IfSome (held holds input name) (λ all. bytes ≡ take (MOST_BYTES + 1) all)

-- Both parts of a check, the text first, and the stream that they make.
pub record AreParts (holds : Holding) (input : Option (List ℕ)) (text listing : Text) (bytes : List ℕ) : Type 0 where
  pub first : List ℕ
  pub first_held : IsHeld holds input text first
  -- what standard input gives then
  pub left : Option (List ℕ)
  pub unread : is_standard text ≡ false → left ≡ input
  pub second : List ℕ
  pub second_held : IsHeld holds left listing second
  pub joined : IsJoined first second bytes

-- the bytes are those of a source
abbrev pub IsGiven : Holding → (input : Option (List ℕ)) → From → List ℕ → Type 0
IsGiven holds input Standard bytes = IsHeld holds input (codes "-") bytes
IsGiven holds input (File name) bytes = IsHeld holds input name bytes
IsGiven holds input (Named text listing) bytes = IsHeld holds input (codes "-") bytes
IsGiven holds input (Parts text listing) bytes = AreParts holds input text listing bytes

-- the words ask for nothing
pub record IsRefused (words : List Text) : Type 0 where
  pub error : CommandError
  pub known : error ≢ Memory
  pub refused : IsRefusal error words

-- A run of the words of a command on what its source gives. All that is promised of a run on a stream is so of one on a stream of the
-- bytes that were read. Files are read only for words that ask for something.
pub data RunsFrom (isa : InstructionSet) (holds : Holding) (words : List Text) (source : From) (old new : Streams) (status : ℕ) : Type 0 where
  OnInput : source ≡ Standard → IsRun isa words old new status → RunsFrom isa holds words source old new status
  OnNothing : IsRefused words → IsRun isa words old new status → RunsFrom isa holds words source old new status
  OnBytes : (bytes : List ℕ) (left : Option (List ℕ)) → IsGiven holds old.input source bytes
      → IsRun isa words (streams (Some bytes) old.output old.errors) (streams left new.output new.errors) status
      → RunsFrom isa holds words source old new status

-- A run of `lint`: its words are refused before anything is read, or the faults of what its source gives are told.
pub data RunsLint (isa : InstructionSet) (holds : Holding) (words : List Text) (source : From) (old new : Streams) (status : ℕ) : Type 0 where
  Refused : linting_of words ≡ None → status ≡ 2 → Tells old.errors new.errors (lint_blame words ++ LINT.now) → Keeps old.output new.output → Keeps old.input new.input
      → RunsLint isa holds words source old new status
  Lints : (linting : Linting) → linting_of words ≡ Some linting → (bytes : List ℕ) → IsGiven holds old.input source bytes
      → (lines : List ℕ) (faulty : Bool) → IsLinted isa linting (text_name source) bytes lines faulty
      → IsLintRun lines faulty old.output new.output old.errors new.errors status → RunsLint isa holds words source old new status

-- an option of memory stands for setting k
abbrev pub is_memory_setting : List Text → ℕ → Bool
is_memory_setting words k = option_map_or is_of_memory (setting_at words k) false

-- what explains why words ask for nothing: of a setting that is none the reason, where that is wanted or an option of memory stands for it, and
-- of promises and other words nothing
abbrev pub refusal_taught : (wanted : Bool) → List Text → CommandError → List ℕ
refusal_taught wanted words (Setting k) = if wanted || is_memory_setting words k then setting_taught words k else []
refusal_taught wanted words error = []

-- the words ask for nothing, and this explains why
pub record IsRefusedFor (wanted : Bool) (words : List Text) (more : List ℕ) : Type 0 where
  pub error : CommandError
  pub known : error ≢ Memory
  pub refused : IsRefusal error words
  pub taught : more ≡ refusal_taught wanted words error

-- what words ask for, or why they ask for nothing
abbrev pub IsAsked : (wanted : Bool) → List Text → Asked → Type 0
IsAsked wanted words (Known command) = asked words ≡ Some (ask_told command)
IsAsked wanted words (Unknown more) = IsRefusedFor wanted words more.items

-- more is told than by the run itself
abbrev pub is_told : List Text → Bool
is_told words = is_explained words || is_strict words || is_watched words || names_memory words

-- A run of words with `--explain`, `--strict`, `--apart` or an option of memory: what is promised of a run without `--explain` is so of it. Behind what that tells of
-- a text or of words that are refused stands with `--explain` what explains why, behind a serial run where accesses meet that `--apart` names,
-- and behind a strict run in which accesses fault stands each of them. The status is that run's, but where accesses meet.
pub data RunsTold (isa : InstructionSet) (holds : Holding) (words : List Text) (source : From) (old new : Streams) (status : ℕ) : Type 0 where
  OnNothing : (more : List ℕ) → IsRefusedFor (is_explained words) (plain_words words) more
      → RunsMore isa (plain_words words) (behind_words more) old new status → RunsTold isa holds words source old new status
  OnBytes : (bytes : List ℕ) (left : Option (List ℕ)) → IsGiven holds old.input source bytes
      → (refused apart faulted : List ℕ) (meets : Bool) (plain : ℕ)
      → AreToldOf isa (is_explained words) (plain_words words) source bytes refused apart faulted meets
      → RunsMore isa (plain_words words) (behind_text refused apart faulted) (streams (Some bytes) old.output old.errors)
      (streams left new.output new.errors) plain
      → status ≡ status_with meets plain
      → RunsTold isa holds words source old new status

-- What words do on what their source gives: they ask for `lint`, or for a command, of which more is told or not.
pub data RunsWords (isa : InstructionSet) (holds : Holding) (words : List Text) (source : From) (old new : Streams) (status : ℕ) : Type 0 where
  Lint : is_lint words ≡ true → RunsLint isa holds words source old new status → RunsWords isa holds words source old new status
  WithMore : is_told words ≡ true → RunsTold isa holds words source old new status → RunsWords isa holds words source old new status
  Plain : is_lint words ≡ false → is_told words ≡ false → RunsFrom isa holds words source old new status
      → RunsWords isa holds words source old new status

-- An answer was made: all of it was written. That of `lint` is what it finds.
abbrev pub is_made : List Text → ℕ → Bool
is_made words status = status == 0 || nat_le 5 status || is_lint words && status == 1

-- A run whose answer goes to a file. That holds the answer then, where one was made, and else what it held. Other files are as they were.
pub record RunsTo (isa : InstructionSet) (before after : Holding) (words : List Text) (source : From) (target : Text) (old new : Streams) (status : ℕ) : Type 0 where
  pub answer : List ℕ
  pub runs : RunsWords isa before words source (streams old.input (Some []) old.errors) (streams new.input (Some answer) new.errors) status
  pub made : is_made words status ≡ true → IsReplaced before target answer after
  pub kept : is_made words status ≡ false → after ≡ before

-- what a run does to the output, or to the file that its answer goes to; then nothing is written to the output
abbrev pub RunsTarget : InstructionSet → (before after : Holding) → List Text → From → Option (Bor Text) → (old new : Streams) → ℕ → Type 0
RunsTarget isa before after words source None old new status = RunsWords isa before words source old new status
RunsTarget isa before after words source (Some target) old new status =
    RunsTo isa before after words source target.now old new status × Keeps old.output new.output

-- ---- memory that goes to files

-- of what is asked for so many bytes go to each file, and this is said if it ends by its limit
pub record IsKept (to_file : Bool) (kept : Kept) (ask : Ask) : Type 0 where
  pub counts : kept.counts.items ≡ counts_asked ask
  pub note : kept.note.items ≡ limit_note to_file ask

-- this is kept of what the words ask for
abbrev pub AsksFor : (to_file : Bool) → List Text → Kept → Type 0
AsksFor to_file words kept = IsSomeAnd (asked words) (IsKept to_file kept)

-- so it is, or the words ask for nothing
abbrev pub IsKeptOf : (to_file : Bool) → List Text → Option Kept → Type 0
IsKeptOf to_file words None = IsRefused words
IsKeptOf to_file words (Some kept) = AsksFor to_file words kept

-- so many files are named, and this is kept; of words that ask for nothing nothing is
abbrev pub IsKeptFor : (names : ℕ) → (to_file : Bool) → List Text → Kept → Type 0
IsKeptFor names to_file words kept =
    (IsRefused words × (kept.counts.items ≡ []) × (kept.note.items ≡ [])) ⊎ ((length kept.counts.items ≡ names) × AsksFor to_file words kept)

-- no file is named that memory goes to, and nothing is to be said
abbrev pub is_plain : (dumps : List Text) → (note : List ℕ) → Bool
is_plain [] [] = true
is_plain _ _ = false

-- the report goes to the output, or to the file of this name
abbrev pub IsDelivered : (before after : Holding) → (target : Option (Bor Text)) → (report : List ℕ) → (done : ℕ) → (old new errors told : Option (List ℕ))
    → (status : ℕ) → Type 0
IsDelivered before after None report done old new errors told status = (after ≡ before) × IsWritten report done old new errors told status
IsDelivered before after (Some target) report done old new errors told status =
    IsReplaced before target.now report after × (status ≡ done) × Keeps old new × Keeps errors told

-- Memory is written to its files, in the order of the words, and then the report to where it goes.
pub record IsDumped (before after : Holding) (call : Call) (counts answer : List ℕ) (done : ℕ) (old new : Streams) (status : ℕ) : Type 0 where
  pub between : Holding
  pub written : AreWritten before (files_of (texts call.dumps.items) counts (dumped_in counts answer)) between
  pub delivered : IsDelivered between after call.target (report_in counts answer) done old.output new.output old.errors new.errors status

-- nothing is written
pub record IsUndone (before after : Holding) (done : ℕ) (old new : Streams) (status : ℕ) : Type 0 where
  pub kept : after ≡ before
  pub ends : status ≡ done
  pub unwritten : Keeps old.output new.output
  pub silent : Keeps old.errors new.errors

-- what is said behind an answer, if its run ended by its limit
abbrev pub said_behind : Kept → (answer : List ℕ) → List ℕ
said_behind kept answer = limit_said kept.note.items (report_in kept.counts.items answer)

-- A run whose answer ends with so many bytes for each of these files. If it ended by its limit, that is said. The files and the report are
-- written where there is an answer.
pub record RunsDumping (isa : InstructionSet) (before after : Holding) (words : List Text) (call : Call) (kept : Kept) (old new : Streams) (status : ℕ) : Type 0 where
  pub answer : List ℕ
  pub done : ℕ
  -- what the error stream holds behind the run, and behind what is said of its limit
  pub told : Option (List ℕ)
  pub noted : Option (List ℕ)
  pub runs : RunsWords isa before words (text_source call.source) (streams old.input (Some []) old.errors) (streams new.input (Some answer) told) done
  pub limited : is_made words done ≡ true → Tells told noted (said_behind kept answer)
  pub made : is_made words done ≡ true → IsDumped before after call kept.counts.items answer done (streams old.input old.output noted) new status
  pub none : is_made words done ≡ false → IsUndone before after done (streams old.input old.output told) new status

-- what a run does of which this is kept, if anything is
abbrev pub RunsKeeping : (plain : Bool) → InstructionSet → (before after : Holding) → List Text → Call → Kept → (old new : Streams) → (status : ℕ) → Type 0
RunsKeeping true isa before after words call kept old new status = RunsTarget isa before after words (text_source call.source) call.target old new status
RunsKeeping false isa before after words call kept old new status = RunsDumping isa before after words call kept old new status

-- what a call does, on its words with those of its files of settings in their places
pub record RunsCall (isa : InstructionSet) (before after : Holding) (call : Call) (old new : Streams) (status : ℕ) : Type 0 where
  pub words : List Text
  pub expanded : Expands before (map text_piece call.words.items) words
  pub kept : Kept
  pub keeps : IsKeptFor (length call.dumps.items) (is_some call.target) (plain_words words) kept
  pub runs : RunsKeeping (is_plain (texts call.dumps.items) kept.note.items) isa before after words call kept old new status

-- files are as they were, but that memory may have been written to the first few of these
abbrev pub HasBegun : (before after : Holding) → (names : List Text) → Type 0
HasBegun before after names = (counts : List ℕ) × (bytes : List ℕ) × AreBegun before (files_of names counts bytes) after

-- There is trouble with words or files. Nothing is written, and no file changes but those that memory goes to.
pub record IsFailure (before after : Holding) (words : List Text) (old new : Streams) (status : ℕ) : Type 0 where
  pub trouble : Trouble
  pub why : HasTrouble before words trouble
  pub ends : status ≡ status_of trouble
  pub said : IsSaid trouble old.errors new.errors
  pub unwritten : Keeps old.output new.output
  pub kept : HasBegun before after (dumps words)

-- What comes of a call: it does what it asks for, or there is trouble.
pub data EndsCall (isa : InstructionSet) (before after : Holding) (call : Call) (old new : Streams) (status : ℕ) : Type 0 where
  Did : RunsCall isa before after call old new status → EndsCall isa before after call old new status
  Failed : (trouble : Trouble) → HasCallTrouble before call trouble → status ≡ status_of trouble → IsSaid trouble old.errors new.errors
      → Keeps old.output new.output → HasBegun before after (texts call.dumps.items) → EndsCall isa before after call old new status
