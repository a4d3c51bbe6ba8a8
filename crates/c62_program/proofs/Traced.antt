-- What is done for words that ask for a trace, from what each step of it did.
use Rattle.std.proofs.Common.{◌≡◌, ◌∙◌, ℕ, Bool, true, List, [], Option, Result, Ok, Err, Some, None, inl, inr, map}
use Rattle.std.proofs.Common.{refl, subst, sym}
use Rattle.std.proofs.KnownBytes.{Keeps-refl}
use Rattle.std.specs.Prelude.{◌≢◌, IfOk, IfSome}
use Rattle.clap.specs.Words.{Text}
use Rattle.c62_command.specs.CommandLine.{IsRefusal}
use Rattle.c62_command.specs.declared.command.CommandError.{CommandError}
use Rattle.c62_command.specs.declared.command.CommandError.TheVariants.{Memory as NoRoom}
use Rattle.c62_command.specs.declared.command.Request.{Request}
use Rattle.c62_teach.specs.Words.{plain_words}
use Rattle.c62_answer.specs.Message.{Tells}
use Rattle.c62_answer.specs.Run.{Streams, streams}
use Rattle.c62_files.specs.Call.{From, IsCall, IsMistake, text_source}
use Rattle.c62_files.specs.Expand.{Expands, Holding}
use Rattle.c62_files.specs.Words.{text_piece}
use Rattle.c62_files.specs.Writing.{IsFinished, IsReplaced}
use Rattle.c62_files.specs.declared.call.Call.{Call}
use Rattle.c62_files.specs.declared.call.CallError.{CallError}
use Rattle.c62_trace.specs.declared.view.Window.{Window}
use Rattle.c62_tracing.specs.Words.{To, Errors, Told, other_words, tracing_of}
use Rattle.c62_tracing.specs.Words.{File as ToFile}
use Rattle.c62_drawing.specs.Traced.{DrawsRequest}
use Rattle.c62_drawing.specs.declared.draw.Drawn.{Drawn}
use Rattle.c62_drawing.specs.declared.run.Traced.{Traced}
use Rattle.c62_drawing.specs.declared.run.Traced.TheVariants.{Nothing, Whole, Cut}
use Rattle.c62_drawing.proofs.Blank.{request_blank}
use Rattle.c62_program.specs.declared.page.TheConstants.{TRACE}
use Rattle.c62_program.specs.declared.trouble.Trouble.TheVariants.{NoCall, Memory}
use Rattle.c62_program.specs.Program.{EndsCall}
use Rattle.c62_program.specs.Trouble.{Says, call_message, status_of}
use Rattle.c62_program.specs.Tracing.{Called, DrawsToFile, EndsFile, EndsOn, EndsRead, EndsSheet, FindsCommand}
use Rattle.c62_program.specs.Tracing.{IsCallOn, IsTextTraced, IsTracedRun, IsTracedTo, LeavesErrors, LeavesFiles}
use Rattle.c62_program.specs.Tracing.{Misnamed, NoneCalled, RunsTraced, Shown, Untraced, read_source}
use Rattle.c62_op.specs.declared.set.InstructionSet.{InstructionSet}

-- ---- files

-- what a sheet had that was blank is what the file of its name holds then
replaced : (known : Bool) (before after : Holding) (name : Text) (bytes : List ℕ) (blank sheet : Option (List ℕ))
    → (known ≡ true → blank ≡ Some []) → (blank ≡ Some [] → sheet ≡ Some bytes)
    → IsFinished before name sheet after → IfSome (after name) (λ _. known ≡ true)
    → IsReplaced before name bytes after
replaced known before after name bytes blank sheet blanks draws done knows =
    (is (after name) knows done.0, done.1)
  where
    same : (held : Option (List ℕ)) (all : List ℕ) → held ≡ Some bytes → IfSome held (λ b. all ≡ b) → all ≡ bytes
    same held all equal has = subst (λ (h : Option (List ℕ)). IfSome h (λ b. all ≡ b)) equal has

    is : (holds : Option (List ℕ)) → IfSome holds (λ _. known ≡ true)
        → IfSome holds (λ all. IfSome sheet (λ b. all ≡ b)) → IfSome holds (λ all. all ≡ bytes)
    is None knows held = tt
    is (Some all) knows held = same sheet all (draws (blanks knows)) held

pub draws_to_file : (isa : InstructionSet) (known : Bool) (before after : Holding) (drawn : Drawn) (window : Window)
    (request : Request)
    (text : List ℕ) (name : Text) (traced : Traced) (blank sheet : Option (List ℕ))
    → (known ≡ true → blank ≡ Some []) → DrawsRequest isa drawn window request text traced blank sheet
    → EndsSheet known before after name sheet traced
    → DrawsToFile isa before after drawn window request text name
draws_to_file isa known before after drawn window request text name traced blank sheet blanks draws done =
    let drawn_on = request_blank isa drawn window request text traced blank sheet draws in
    record {
      traced = traced;
      bytes = drawn_on.0;
      draws = drawn_on.1;
      ends = ends traced done drawn_on.0 drawn_on.2;
    }
  where
    ends : (traced : Traced) → EndsSheet known before after name sheet traced → (bytes : List ℕ)
        → (blank ≡ Some [] → sheet ≡ Some bytes) → EndsFile before after name bytes traced
    ends Nothing done bytes draws = done
    ends Whole done bytes draws = replaced known before after name bytes blank sheet blanks draws done.0 done.1
    ends (Cut refused) done bytes draws = absurd done

-- the same of a sheet that was begun, where the file may not be written
pub file_drawn : (isa : InstructionSet) {E : Type 0} (result : Result (Unit {0}) E) (known : Bool)
    (before begun after : Holding)
    (drawn : Drawn) (window : Window) (request : Request) (text : List ℕ) (name : Text) (traced : Traced)
    (blank sheet : Option (List ℕ)) → begun ≡ before → (known ≡ true → blank ≡ Some [])
    → DrawsRequest isa drawn window request text traced blank sheet
    → IfOk result (λ _. EndsSheet known begun after name sheet traced)
    → IfOk result (λ _. DrawsToFile isa before after drawn window request text name)
file_drawn isa (Ok done) known before begun after drawn window request text name traced blank sheet same blanks draws
    ends =
    draws_to_file isa known before after drawn window request text name traced blank sheet blanks draws
    (subst (λ (m : Holding). EndsSheet known m after name sheet traced) same ends)
file_drawn isa (Err error) known before begun after drawn window request text name traced blank sheet same blanks draws
    ends = tt

-- a trace was written, and its waveform may have failed
pub leaves_files : (isa : InstructionSet) (before mid after : Holding) (window : Window) (request : Request)
    (text : List ℕ) (to : Option To) (old new : Option (List ℕ)) (drawn : Traced)
    → IsTracedTo isa before mid window request text to old new drawn → after ≡ mid → LeavesFiles before after to
leaves_files isa before mid after window request text None old new drawn traced same = same ∙ traced.0
leaves_files isa before mid after window request text (Some Errors) old new drawn traced same = same ∙ traced.0
leaves_files isa before mid after window request text (Some (ToFile name)) old new drawn traced same =
    subst (λ (m : Holding). LeavesFiles before m (Some (ToFile name))) (sym same)
    (left traced.0.traced traced.0.bytes traced.0.ends)
  where
    left : (traced : Traced) (bytes : List ℕ) → EndsFile before mid name bytes traced
        → (other : Text) → other ≢ name → mid other ≡ before other
    left Nothing bytes ends other differs = rw ends refl
    left Whole bytes ends other differs = ends.1 other differs
    left (Cut refused) bytes ends other differs = absurd ends

pub leaves_errors : (isa : InstructionSet) (before mid : Holding) (window : Window) (request : Request) (text : List ℕ)
    (to : Option To) (old new : Option (List ℕ)) (drawn : Traced)
    → IsTracedTo isa before mid window request text to old new drawn → LeavesErrors to old new
leaves_errors isa before mid window request text None old new drawn traced = traced.1
leaves_errors isa before mid window request text (Some Errors) old new drawn traced = tt
leaves_errors isa before mid window request text (Some (ToFile name)) old new drawn traced = traced.1

-- nothing was written yet
pub same_files : (before after : Holding) (to : Option To) → after ≡ before → LeavesFiles before after to
same_files before after None same = same
same_files before after (Some Errors) same = same
same_files before after (Some (ToFile name)) same = λ other differs. rw same refl

pub same_errors : (to : Option To) (old new : Option (List ℕ)) → new ≡ old → LeavesErrors to old new
same_errors None old new same = same
same_errors (Some Errors) old new same = tt
same_errors (Some (ToFile name)) old new same = same

-- ---- calls

pub refused : (words : List Text) (error : CommandError) → error ≢ NoRoom → IsRefusal error (plain_words words)
    → FindsCommand words None
refused words error known refusal = record { error = error; known = known; refused = refusal }

-- a call comes to its end behind its trace
pub traced : (isa : InstructionSet) (before mid after : Holding) (told : Told) (call : Call) (words : List Text)
    (text : Option (List ℕ))
    (input left rest output out errors errs ends : Option (List ℕ)) (status : ℕ) (drawn : Traced)
    → Expands before (map text_piece call.words.items) words
    → IsTextTraced isa before mid told words (text_source call.source) input left text errors errs drawn
    → EndsRead isa mid after call words text (streams left output errs) (streams rest out ends) status
    → RunsTraced isa before after told call (streams input output errors) (streams rest out ends) status drawn
traced isa before mid after told call words None input left rest output out errors errs ends status drawn are none over =
    Untraced words are none.0
    (subst (λ (m : Holding). EndsOn isa m after call words (text_source call.source) (streams input output errors)
    (streams rest out ends) status) none.1
    (subst (λ l. EndsOn isa mid after call words (text_source call.source) (streams l output errors)
    (streams rest out ends) status) none.2
    (subst (λ e. EndsOn isa mid after call words (text_source call.source) (streams left output e)
    (streams rest out ends) status) none.3 over)))
traced isa before mid after told call words
    (Some text) input left rest output out errors errs ends status drawn are some over =
    Shown words are some.0 some.1 text some.2 mid errs over.0 some.3 over.1

-- a call of these words on a source comes to its end, or there is no room for it
pub ends : (isa : InstructionSet) (before after : Holding) (call made : Call) (words : List Text) (source : From)
    (old new : Streams)
    (status : ℕ) → IsCallOn call words source made → EndsCall isa before after made old new status
    → EndsOn isa before after call words source old new status
ends isa before after call made words source old new status is over = inl (made, is, over)

pub short : (isa : InstructionSet) (before : Holding) (call : Call) (words : List Text) (source : From)
    (input output errors told : Option (List ℕ)) (status : ℕ)
    → status ≡ status_of Memory → Says Tells Memory errors told
    → EndsOn isa before before call words source (streams input output errors) (streams input output told) status
short isa before call words source input output errors told status is says = inr (is, says, Keeps-refl output, refl)

-- a text that was read, or what the source gives
pub unread : (isa : InstructionSet) (before after : Holding) (call : Call) (words : List Text) (text : Option (List ℕ))
    (old new : Streams)
    (status : ℕ) → text ≡ None → EndsOn isa before after call words (text_source call.source) old new status
    → EndsRead isa before after call words text old new status
unread isa before after call words text old new status none over =
    subst (λ (t : Option (List ℕ)). EndsRead isa before after call words t old new status) (sym none) over

pub read : (isa : InstructionSet) (before after : Holding) (call : Call) (words : List Text) (text : Option (List ℕ))
    (bytes : List ℕ)
    (source : From) (input output errors left out told : Option (List ℕ)) (status : ℕ)
    → text ≡ Some bytes → source ≡ read_source (text_source call.source)
    → EndsOn isa before after call words source (streams (Some bytes) output errors) (streams left out told) status
    → EndsRead isa before after call words text (streams input output errors) (streams input out told) status
read isa before after call words text bytes source input output errors left out told status some is over =
    subst (λ (t : Option (List ℕ)). EndsRead isa before after call words t (streams input output errors)
    (streams input out told) status) (sym some) (
      left,
      subst (λ (s : From). EndsOn isa before after call words s (streams (Some bytes) output errors)
          (streams left out told) status) is over,
    )

-- words that ask for a trace come to no call
pub misnamed : (isa : InstructionSet) (before : Holding) (words : List Text) (input output old new : Option (List ℕ))
    (status : ℕ) (drawn : Traced)
    → tracing_of words ≡ None → status ≡ 2 → Tells old new TRACE.now
    → IsTracedRun isa before before words (streams input output old) (streams input output new) status drawn
misnamed isa before words input output old new status drawn none is says = Misnamed none is says (Keeps-refl output) refl

pub uncalled : (isa : InstructionSet) (before : Holding) (words others : List Text) (error : CallError)
    (input output old new : Option (List ℕ)) (status : ℕ) (drawn : Traced) → others ≡ other_words words → IsMistake others error
    → status ≡ status_of (NoCall error) → Tells old new (call_message error)
    → IsTracedRun isa before before words (streams input output old) (streams input output new) status drawn
uncalled isa before words others error input output old new status drawn same is ends says =
    NoneCalled error (subst (λ (o : List Text). IsMistake o error) same is) ends says (Keeps-refl output) refl

pub called : (isa : InstructionSet) (before after : Holding) (words others : List Text) (told : Told) (call : Call)
    (old new : Streams)
    (status : ℕ) (drawn : Traced) → tracing_of words ≡ Some told → others ≡ other_words words → IsCall others call
    → RunsTraced isa before after told call old new status drawn
    → IsTracedRun isa before after words old new status drawn
called isa before after words others told call old new status drawn some same is runs =
    Called told some call (subst (λ (o : List Text). IsCall o call) same is) runs
