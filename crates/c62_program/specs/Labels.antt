-- What the program does with labels that begin with a dot (docs/SERIAL_TEXT.md, "Labels of GNU's compilers").
use Rattle.std.specs.Prelude.{◌≡◌, ◌⊎◌, ℕ, Bool, true, false, List, Option, Some, None, map}
use Rattle.std.specs.Io.KnownBytes.{Keeps}
use Rattle.clap.specs.Words.{Text}
use Rattle.c62_op.specs.declared.set.InstructionSet.{InstructionSet}
use Rattle.c62_gnu_labels.specs.Labels.{relabelled}
use Rattle.c62_gnu_labels.specs.Words.{asks_labels, other_words}
use Rattle.c62_answer.specs.Message.{Tells}
use Rattle.c62_answer.specs.Parting.{HasNoParting, IsParted}
use Rattle.c62_answer.specs.Run.{Streams, streams}
use Rattle.c62_files.specs.Call.{From, IsCall, IsMistake, text_source}
use Rattle.c62_files.specs.Expand.{Expands, Holding}
use Rattle.c62_files.specs.Words.{text_piece}
use Rattle.c62_files.specs.declared.call.Call.{Call}
use Rattle.c62_files.specs.declared.call.CallError.{CallError}
use Rattle.c62_teach.specs.Words.{is_lint, linting_of, plain_words}
use Rattle.c62_drawing.specs.declared.run.Traced.{Traced}
use Rattle.c62_drawing.specs.declared.run.Traced.TheVariants.{Nothing}
use Rattle.c62_program.specs.Joined.{IsJoined}
use Rattle.c62_program.specs.Program.{IsGiven, IsRefused}
use Rattle.c62_program.specs.Tracing.{EndsRead}
use Rattle.c62_program.specs.Trouble.{HasCallTrouble, Says, call_message, status_of}
use Rattle.c62_program.specs.Whole.{IsProgramRun}
use Rattle.c62_program.specs.declared.page.TheConstants.{LABELS}
use Rattle.c62_program.specs.declared.trouble.Trouble.{Trouble}
use Rattle.c62_program.specs.declared.trouble.Trouble.TheVariants.{NoCall, Memory}

-- the words ask for nothing that is done with a text
abbrev pub AsksNothing : List Text → Type 0
AsksNothing words = ((is_lint words ≡ true) × (linting_of words ≡ None)) ⊎ IsRefused (plain_words words)

-- A text with its labels relabelled. Behind a line `---`, where a check has its listing, nothing is.
pub data IsRenamed (text named : List ℕ) : Type 0 where
  Whole : HasNoParting text → named ≡ relabelled text → IsRenamed text named
  Front : (front behind : List ℕ) → IsParted text front behind → IsJoined (relabelled front) behind named → IsRenamed text named

-- What a source gives, with its labels relabelled; or the words ask for nothing, and nothing is read.
abbrev pub IsTextRelabelled : Holding → List Text → From → (input left : Option (List ℕ)) → Option (List ℕ) → Type 0
IsTextRelabelled holds words source input left None = AsksNothing words × (left ≡ input)
IsTextRelabelled holds words source input left (Some bytes) =
    (text : List ℕ) × IsGiven holds input source text × IsRenamed text bytes

-- What is done for a call whose text has such labels. There is trouble with its words or with reading its text, and nothing is written but
-- what says so. Or it is done what the call asks for on its text with the labels relabelled, or what it says where it asks for nothing.
pub data RunsLabelled (isa : InstructionSet) (before after : Holding) (call : Call) (old new : Streams) (status : ℕ) : Type 0 where
  Stopped : (trouble : Trouble) → HasCallTrouble before call trouble → status ≡ status_of trouble → Says Tells trouble old.errors new.errors
      → Keeps old.output new.output → after ≡ before → RunsLabelled isa before after call old new status
  Ended : (words : List Text) → Expands before (map text_piece call.words.items) words
      → (text left : Option (List ℕ)) → IsTextRelabelled before words (text_source call.source) old.input left text
      → EndsRead isa before after call words text (streams left old.output old.errors) new status
      → RunsLabelled isa before after call old new status

-- What is done for words that ask for such labels: they do so in no way that is known, memory runs out, the other words make no call, or it is
-- done.
pub data IsLabelledRun (isa : InstructionSet) (before after : Holding) (words : List Text) (old new : Streams) (status : ℕ) (traced : Traced) : Type 0 where
  Misnamed : other_words words ≡ None → status ≡ 2 → Tells old.errors new.errors LABELS.now → Keeps old.output new.output → after ≡ before
      → IsLabelledRun isa before after words old new status traced
  Exhausted : status ≡ status_of Memory → Says Tells Memory old.errors new.errors → Keeps old.output new.output → after ≡ before
      → IsLabelledRun isa before after words old new status traced
  NoneCalled : (others : List Text) → other_words words ≡ Some others → (error : CallError) → IsMistake others error
      → status ≡ status_of (NoCall error) → Tells old.errors new.errors (call_message error) → Keeps old.output new.output → after ≡ before
      → IsLabelledRun isa before after words old new status traced
  Called : (others : List Text) → other_words words ≡ Some others → (call : Call) → IsCall others call
      → RunsLabelled isa before after call old new status → traced ≡ Nothing → IsLabelledRun isa before after words old new status traced

abbrev pub by_labels : Bool → InstructionSet → (before after : Holding) → List Text → (old new : Streams) → (status : ℕ) → Traced → Type 0
by_labels true isa before after words old new status traced = IsLabelledRun isa before after words old new status traced
by_labels false isa before after words old new status traced = IsProgramRun isa before after words old new status traced

-- without `--labels` the labels of serial text
abbrev pub IsReadRun : InstructionSet → (before after : Holding) → List Text → (old new : Streams) → (status : ℕ) → Traced → Type 0
IsReadRun isa before after words old new status traced = by_labels (asks_labels words) isa before after words old new status traced
