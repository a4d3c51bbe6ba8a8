-- What is done with labels that begin with a dot, from what each step of it did.
use Rattle.std.proofs.Common.{◌≡◌, ℕ, true, List, Option, Some, None, inl, inr, map, refl, subst}
use Rattle.std.proofs.KnownBytes.{Keeps-refl}
use Rattle.std.specs.Borrow.{Bor}
use Rattle.clap.specs.Words.{Text}
use Rattle.c62_op.specs.declared.set.InstructionSet.{InstructionSet}
use Rattle.c62_gnu_labels.specs.Labels.{relabelled}
use Rattle.c62_gnu_labels.specs.Words.{other_words}
use Rattle.c62_answer.specs.Message.{Tells}
use Rattle.c62_answer.specs.Parting.{HasNoParting, IsParted}
use Rattle.c62_answer.specs.Run.{Streams, streams}
use Rattle.c62_drawing.specs.declared.run.Traced.{Traced}
use Rattle.c62_drawing.specs.declared.run.Traced.TheVariants.{Nothing}
use Rattle.c62_files.specs.Call.{From, IsCall, IsMistake, text_source}
use Rattle.c62_files.specs.Expand.{Expands, Holding}
use Rattle.c62_files.specs.Words.{text_piece}
use Rattle.c62_files.specs.declared.call.Call.{Call}
use Rattle.c62_files.specs.declared.call.CallError.{CallError}
use Rattle.c62_teach.specs.Words.{is_lint, linting_of}
use Rattle.c62_program.specs.Labels.{AsksNothing, Called, Ended, Front, IsLabelledRun, IsRenamed}
use Rattle.c62_program.specs.Labels.{IsTextRelabelled, Misnamed, NoneCalled, RunsLabelled, Whole}
use Rattle.c62_program.specs.Joined.{IsJoined}
use Rattle.c62_program.specs.Program.{IsGiven}
use Rattle.c62_program.specs.Tracing.{EndsRead, FindsCommand}
use Rattle.c62_program.specs.Trouble.{HasCallTrouble, IsTroubleWithRun, IsTroubleWithSource, Running, call_message, status_of}
use Rattle.c62_program.specs.declared.page.TheConstants.{LABELS}
use Rattle.c62_program.specs.declared.trouble.Trouble.{Trouble}
use Rattle.c62_program.specs.declared.trouble.Trouble.TheVariants.{NoCall}

-- ---- the text

pub no_lint : (words : List Text) → is_lint words ≡ true → linting_of words ≡ None → AsksNothing words
no_lint words lint none = inl (lint, none)

pub no_command : (words : List Text) → FindsCommand words None → AsksNothing words
no_command words refused = inr refused

pub whole_renamed : (text named : List ℕ) → HasNoParting text → named ≡ relabelled text → IsRenamed text named
whole_renamed text named whole is = Whole whole is

pub front_renamed : (text front behind part named : List ℕ) → IsParted text front behind → part ≡ relabelled front
    → IsJoined part behind named → IsRenamed text named
front_renamed text front behind part named parted is together =
    Front front behind parted (subst (λ (p : List ℕ). IsJoined p behind named) is together)

pub nothing_relabelled : (holds : Holding) (words : List Text) (source : From) (input left : Option (List ℕ))
    → AsksNothing words → left ≡ input → IsTextRelabelled holds words source input left None
nothing_relabelled holds words source input left nothing same = (nothing, same)

pub text_relabelled : (holds : Holding) (words : List Text) (source : From) (input left : Option (List ℕ))
    (text bytes : List ℕ) → IsGiven holds input source text → IsRenamed text bytes
    → IsTextRelabelled holds words source input left (Some bytes)
text_relabelled holds words source input left text bytes given is = (text, given, is)

-- trouble with reading what a call names is its own
pub stopped_by_source : (before : Holding) (call : Call) (trouble : Trouble)
    → IsTroubleWithSource (text_source call.source) trouble → HasCallTrouble before call trouble
stopped_by_source before call trouble with = Running (inl (by call.target))
  where
    by : (target : Option (Bor Text)) → IsTroubleWithRun (text_source call.source) target trouble
    by None = with
    by (Some target) = inl with

-- ---- the call

pub ended : (isa : InstructionSet) (before after : Holding) (call : Call) (words : List Text)
    (text input left output errors rest out told : Option (List ℕ)) (status : ℕ)
    → Expands before (map text_piece call.words.items) words
    → IsTextRelabelled before words (text_source call.source) input left text
    → EndsRead isa before after call words text (streams left output errors) (streams rest out told) status
    → RunsLabelled isa before after call (streams input output errors) (streams rest out told) status
ended isa before after call words text input left output errors rest out told status are is over =
    Ended words are text left is over

-- ---- the words

pub misnamed : (isa : InstructionSet) (before : Holding) (words : List Text) (input output old new : Option (List ℕ))
    (status : ℕ) (traced : Traced)
    → other_words words ≡ None → status ≡ 2 → Tells old new LABELS.now
    → IsLabelledRun isa before before words (streams input output old) (streams input output new) status traced
misnamed isa before words input output old new status traced none is says =
    Misnamed none is says (Keeps-refl output) refl

pub uncalled : (isa : InstructionSet) (before : Holding) (words others : List Text) (error : CallError)
    (input output old new : Option (List ℕ)) (status : ℕ) (traced : Traced)
    → other_words words ≡ Some others → IsMistake others error
    → status ≡ status_of (NoCall error) → Tells old new (call_message error)
    → IsLabelledRun isa before before words (streams input output old) (streams input output new) status traced
uncalled isa before words others error input output old new status traced some is ends says =
    NoneCalled others some error is ends says (Keeps-refl output) refl

pub called : (isa : InstructionSet) (before after : Holding) (words others : List Text) (call : Call) (old new : Streams)
    (status : ℕ) (traced : Traced) → other_words words ≡ Some others → IsCall others call
    → RunsLabelled isa before after call old new status → traced ≡ Nothing
    → IsLabelledRun isa before after words old new status traced
called isa before after words others call old new status traced some is runs none = Called others some call is runs none
