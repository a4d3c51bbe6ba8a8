-- Runs whose trace or waveform is written (docs/TRACE.md, docs/WAVE.md).
use Rattle.std.specs.Prelude.{◌≡◌, ◌≢◌, ◌⊎◌, ℕ, Bool, true, List, [], map, Option, Some, None, IfSome}
use Rattle.std.specs.Io.KnownBytes.{Keeps}
use Rattle.clap.specs.Words.{Text}
use Rattle.c62_answer.specs.Message.{Tells}
use Rattle.c62_answer.specs.Run.{Streams, streams}
use Rattle.c62_command.specs.CommandLine.{ask_told, asked}
use Rattle.c62_command.specs.declared.command.Command.{Command}
use Rattle.c62_command.specs.declared.command.Request.{Request}
use Rattle.c62_files.specs.Call.{From, IsCall, IsMistake, File, Named, Parts, text_source}
use Rattle.c62_files.specs.Expand.{Expands, Holding}
use Rattle.c62_files.specs.Words.{Plain, text_piece}
use Rattle.c62_files.specs.Writing.{IsFinished, IsReplaced}
use Rattle.c62_files.specs.declared.call.Call.{Call}
use Rattle.c62_files.specs.declared.call.CallError.{CallError}
use Rattle.c62_teach.specs.Words.{plain_words}
use Rattle.c62_trace.specs.declared.view.Window.{Window}
use Rattle.c62_tracing.specs.Words.{To, Errors, Told, other_words, tracing_of}
use Rattle.c62_tracing.specs.Words.{File as ToFile}
use Rattle.c62_drawing.specs.Traced.{DrawsRequest}
use Rattle.c62_drawing.specs.declared.draw.Drawn.{Drawn}
use Rattle.c62_drawing.specs.declared.draw.Drawn.TheVariants.{Trace, Wave}
use Rattle.c62_drawing.specs.declared.run.Traced.{Traced}
use Rattle.c62_drawing.specs.declared.run.Traced.TheVariants.{Nothing, Whole, Cut}
use Rattle.c62_program.specs.Program.{EndsCall, IsGiven, IsRefused}
use Rattle.c62_program.specs.declared.page.TheConstants.{TRACE}
use Rattle.c62_program.specs.Trouble.{HasCallTrouble, IsTroubleWithSource, IsTroubleWriting, Says, call_message, status_of}
use Rattle.c62_program.specs.declared.trouble.Trouble.{Trouble}
use Rattle.c62_program.specs.declared.trouble.Trouble.TheVariants.{NoCall, Memory}
use Rattle.c62_op.specs.declared.set.InstructionSet.{InstructionSet}

-- ---- files

-- a sheet that got this of a run was put in the place of the file of this name, if anything was traced; where anything is known of
-- that file then, it is known what sheets hold
abbrev pub EndsSheet : (known : Bool) → (before after : Holding) → (name : Text) → (sheet : Option (List ℕ)) → Traced → Type 0
EndsSheet known before after name sheet Nothing = after ≡ before
EndsSheet known before after name sheet Whole = IsFinished before name sheet after × IfSome (after name) (λ _. known ≡ true)
EndsSheet known before after name sheet (Cut _) = ⊥

-- the file of this name holds these bytes then, if anything was traced
abbrev pub EndsFile : (before after : Holding) → (name : Text) → (bytes : List ℕ) → Traced → Type 0
EndsFile before after name bytes Nothing = after ≡ before
EndsFile before after name bytes Whole = IsReplaced before name bytes after
EndsFile before after name bytes (Cut _) = ⊥

-- The file of this name holds what is drawn of the run that is asked for, all of it and nothing else; of a text that isn't run all
-- files are what they were.
pub record DrawsToFile (isa : InstructionSet) (before after : Holding) (drawn : Drawn) (window : Window) (request : Request) (text : List ℕ) (name : Text) : Type 0 where
  pub traced : Traced
  pub bytes : List ℕ
  pub draws : DrawsRequest isa drawn window request text traced (Some []) (Some bytes)
  pub ends : EndsFile before after name bytes traced

-- A trace goes to standard error or to a file, where it is asked for. Of one that goes to standard error it is told what that got: all of it,
-- or a front where it refused what follows.
abbrev pub IsTracedTo : InstructionSet → (before after : Holding) → Window → Request → (text : List ℕ) → Option To → (old new : Option (List ℕ)) → Traced → Type 0
IsTracedTo isa before after window request text None old new traced = (after ≡ before) × (new ≡ old)
IsTracedTo isa before after window request text (Some Errors) old new traced =
    (after ≡ before) × DrawsRequest isa Trace window request text traced old new
IsTracedTo isa before after window request text (Some (ToFile name)) old new traced =
    DrawsToFile isa before after Trace window request text name × (new ≡ old)

-- and a waveform to a file
abbrev pub IsWavedTo : InstructionSet → (before after : Holding) → Window → Request → (text : List ℕ) → Option Text → Type 0
IsWavedTo isa before after window request text None = after ≡ before
IsWavedTo isa before after window request text (Some name) = DrawsToFile isa before after Wave window request text name

abbrev pub window_of : Told → Window
window_of told = record { from = told.from; count = told.count }

-- What is asked for of a run is written: its trace, of which standard error got so much if it goes there, and then its waveform.
pub record AreTraced (isa : InstructionSet) (before after : Holding) (told : Told) (request : Request) (text : List ℕ) (old new : Option (List ℕ))
    (traced : Traced) : Type 0 where
  pub between : Holding
  pub trace : IsTracedTo isa before between (window_of told) request text told.trace old new traced
  pub wave : IsWavedTo isa between after (window_of told) request text told.vcd

-- Where not all of it is written, no file is another than before but the one that the trace goes to,
abbrev pub LeavesFiles : (before after : Holding) → Option To → Type 0
LeavesFiles before after (Some (ToFile name)) = (other : Text) → other ≢ name → after other ≡ before other
LeavesFiles before after _ = after ≡ before

-- and standard error got nothing, but for a trace that goes there.
abbrev pub LeavesErrors : Option To → (old new : Option (List ℕ)) → Type 0
LeavesErrors (Some Errors) old new = Unit {0}
LeavesErrors _ old new = new ≡ old

-- ---- the words of the run

-- what words ask for, or they are refused
abbrev pub FindsCommand : List Text → Option Command → Type 0
FindsCommand words None = IsRefused (plain_words words)
FindsCommand words (Some command) = asked (plain_words words) ≡ Some (ask_told command)

-- a source whose bytes were read
abbrev pub read_source : From → From
read_source (File name) = Named name name
read_source (Parts text listing) = Named text listing
read_source source = source

-- the call of these words on that, whose answer and memory go where those of a call go
pub record IsCallOn (call : Call) (words : List Text) (source : From) (made : Call) : Type 0 where
  pub said : map text_piece made.words.items ≡ map Plain words
  pub reads : text_source made.source ≡ source
  pub answers : made.target ≡ call.target
  pub dumps : made.dumps.items ≡ call.dumps.items

-- ---- the program

-- writing a trace or a waveform where it goes
abbrev pub IsTroubleTracingTo : Option To → Trouble → Type 0
IsTroubleTracingTo (Some (ToFile name)) trouble = IsTroubleWriting name trouble
IsTroubleTracingTo _ trouble = trouble ≡ Memory

abbrev pub IsTroubleWavingTo : Option Text → Trouble → Type 0
IsTroubleWavingTo (Some name) trouble = IsTroubleWriting name trouble
IsTroubleWavingTo None trouble = ⊥

-- or reading what a source names, or where memory ran out
abbrev pub IsTroubleTracing : Told → From → Trouble → Type 0
IsTroubleTracing told source trouble =
    (trouble ≡ Memory) ⊎ (IsTroubleWithSource source trouble ⊎ (IsTroubleTracingTo told.trace trouble ⊎ IsTroubleWavingTo told.vcd trouble))

-- Words ask for a run, whose trace and waveform are written of what a source gives; or they ask for nothing, and nothing is read or written.
abbrev pub IsTextTraced : InstructionSet → (before after : Holding) → Told → List Text → From → (input left : Option (List ℕ)) → Option (List ℕ) → (old new : Option (List ℕ)) → Traced → Type 0
IsTextTraced isa before after told words source input left None old new traced =
    IsRefused (plain_words words) × (after ≡ before) × (left ≡ input) × (new ≡ old)
IsTextTraced isa before after told words source input left (Some text) old new traced =
    (command : Command) × (asked (plain_words words) ≡ Some (ask_told command)) × IsGiven before input source text
    × AreTraced isa before after told command.request text old new traced

-- a call with these words on a source comes to its end, or memory ran out before it began
abbrev pub EndsOn : InstructionSet → (before after : Holding) → Call → List Text → From → (old new : Streams) → (status : ℕ) → Type 0
EndsOn isa before after call words source old new status =
    ((made : Call) × IsCallOn call words source made × EndsCall isa before after made old new status)
    ⊎ ((status ≡ status_of Memory) × Says Tells Memory old.errors new.errors × Keeps old.output new.output × (after ≡ before))

-- on a text that was read, or on what its source gives
abbrev pub EndsRead : InstructionSet → (before after : Holding) → Call → List Text → Option (List ℕ) → (old new : Streams) → (status : ℕ) → Type 0
EndsRead isa before after call words None old new status = EndsOn isa before after call words (text_source call.source) old new status
EndsRead isa before after call words (Some text) old new status =
    (left : Option (List ℕ)) × EndsOn isa before after call words (read_source (text_source call.source)) (streams (Some text) old.output old.errors)
    (streams left new.output new.errors) status

-- What is done for a call whose run is traced. There is trouble, and nothing is written to the output. Or its words ask for nothing, and it
-- says so as without a trace. Else the trace and the waveform are written of the run that they ask for on the bytes that the source gives, and
-- then they do on these bytes what they do without a trace. Of a trace that goes to standard error it is told then what that got.
pub data RunsTraced (isa : InstructionSet) (before after : Holding) (told : Told) (call : Call) (old new : Streams) (status : ℕ) (traced : Traced) : Type 0 where
  Stopped : (trouble : Trouble) → HasCallTrouble before call trouble ⊎ IsTroubleTracing told (text_source call.source) trouble
      → status ≡ status_of trouble → Keeps old.output new.output → LeavesFiles before after told.trace
      → (errors : Option (List ℕ)) → LeavesErrors told.trace old.errors errors → Says Tells trouble errors new.errors
      → RunsTraced isa before after told call old new status traced
  Untraced : (words : List Text) → Expands before (map text_piece call.words.items) words → IsRefused (plain_words words)
      → EndsOn isa before after call words (text_source call.source) old new status → RunsTraced isa before after told call old new status traced
  Shown : (words : List Text) → Expands before (map text_piece call.words.items) words
      → (command : Command) → asked (plain_words words) ≡ Some (ask_told command)
      → (text : List ℕ) → IsGiven before old.input (text_source call.source) text
      → (between : Holding) (errors left : Option (List ℕ)) → AreTraced isa before between told command.request text old.errors errors traced
      → EndsOn isa between after call words (read_source (text_source call.source)) (streams (Some text) old.output errors)
      (streams left new.output new.errors) status
      → RunsTraced isa before after told call old new status traced

-- What is done for words that ask for a trace: what these ask for is bad, or the others make no call, or it is traced.
pub data IsTracedRun (isa : InstructionSet) (before after : Holding) (words : List Text) (old new : Streams) (status : ℕ) (traced : Traced) : Type 0 where
  Misnamed : tracing_of words ≡ None → status ≡ 2 → Tells old.errors new.errors TRACE.now → Keeps old.output new.output
      → after ≡ before → IsTracedRun isa before after words old new status traced
  Exhausted : status ≡ status_of Memory → Says Tells Memory old.errors new.errors → Keeps old.output new.output → after ≡ before
      → IsTracedRun isa before after words old new status traced
  NoneCalled : (error : CallError) → IsMistake (other_words words) error → status ≡ status_of (NoCall error)
      → Tells old.errors new.errors (call_message error) → Keeps old.output new.output → after ≡ before
      → IsTracedRun isa before after words old new status traced
  Called : (told : Told) → tracing_of words ≡ Some told → (call : Call) → IsCall (other_words words) call
      → RunsTraced isa before after told call old new status traced → IsTracedRun isa before after words old new status traced
