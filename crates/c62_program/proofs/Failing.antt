-- Why nothing comes of words, from what a step of their run says.
use Rattle.std.proofs.Common.{◌≡◌, ◌∙◌, ℕ, true, List, [], ◌++◌, Option, Some, None, Result, refl, ap, subst, inl, inr}
use Rattle.std.specs.Io.KnownBytes.{Appends, Keeps}
use Rattle.std.specs.Borrow.{Bor}
use Rattle.std.proofs.KnownBytes.{Keeps-refl}
use Rattle.clap.specs.Words.{Text}
use Rattle.c62_answer.specs.Message.{Tells, told_of}
use Rattle.c62_answer.specs.Run.{Streams, streams}
use Rattle.c62_answer.proofs.WholeRuns.{told_tells}
use Rattle.c62_files.specs.Call.{From, IsCall, IsMistake, Standard, File, Named, Parts, text_source}
use Rattle.c62_files.specs.Expand.{Holding}
use Rattle.c62_files.specs.declared.expand.Unexpanded.{Unexpanded}
use Rattle.c62_files.specs.declared.expand.Unexpanded.TheVariants.{Load, Unread as NotRead}
use Rattle.c62_files.specs.Words.{dumps, texts}
use Rattle.c62_dumping.specs.Cut.{files_of}
use Rattle.c62_files.proofs.WrittenFiles.{none_begun}
use Rattle.c62_files.specs.declared.call.Call.{Call}
use Rattle.c62_files.specs.declared.call.CallError.{CallError}
use Rattle.c62_files.specs.declared.folder.FileError.{FileError}
use Rattle.c62_files.specs.declared.folder.FileError.TheVariants as failure
use Rattle.c62_program.specs.declared.trouble.Trouble.{Trouble}
use Rattle.c62_program.specs.declared.trouble.Trouble.TheVariants.{NoCall, NoLoad, Unread, Unwritten, LooseDump, Input}
use Rattle.c62_program.specs.declared.trouble.Trouble.TheVariants.{Memory}
use Rattle.c62_program.specs.Trouble.{Called, Expanding, HasCallTrouble, IsSaid, IsTroubleWithRun}
use Rattle.c62_program.specs.Trouble.{IsTroubleWithSource, Loose, Mistaken, Running, Says, call_message, is_early}
use Rattle.c62_program.specs.Trouble.{load_message, loose_message, of_reading, of_words, status_of}
use Rattle.c62_program.specs.Program.{EndsCall, Failed, HasBegun, IsFailure}
use Rattle.c62_op.specs.declared.set.InstructionSet.{InstructionSet}

-- ---- memory

pub memory_with : (source : From) (trouble : Trouble) → trouble ≡ Memory → IsTroubleWithSource source trouble
memory_with Standard trouble is = rw is tt
memory_with (File name) trouble is = rw is tt
memory_with (Named text listing) trouble is = rw is tt
memory_with (Parts text listing) trouble is = inl (rw is tt)

-- ---- what is said

pub says_told : {E : Type 0} (result : Result (Unit {0}) E) (trouble : Trouble) (old new : Option (List ℕ))
    → Says (told_of result) trouble old new
    → Says Tells trouble old new
says_told result (NoCall error) old new said = told_tells result old new (call_message error) said
says_told result (NoLoad number misfit) old new said = told_tells result old new (load_message number misfit) said
says_told result (Unread name error) old new said = tt
says_told result (Unwritten name error) old new said = tt
says_told result LooseDump old new said = told_tells result old new loose_message said
says_told result Input old new said = told_tells result old new _ said
says_told result Memory old new said = told_tells result old new _ said

appends_behind : (a b c : Option (List ℕ)) (bytes : List ℕ) → Keeps a b → Appends b c bytes → Appends a c bytes
appends_behind None b c bytes kept more = tt
appends_behind (Some xs) None c bytes kept more = absurd kept
appends_behind (Some xs) (Some ys) None bytes kept more = absurd more
appends_behind (Some xs) (Some ys) (Some zs) bytes kept more = more ∙ ap (λ (v : List ℕ). v ++ bytes) kept

tells_behind : (a b c : Option (List ℕ)) (text : List ℕ) → Keeps a b → Tells b c text → Tells a c text
tells_behind a b c text kept told = (told.0, appends_behind a b c _ kept told.1)

-- ---- a call's trouble is none of its words

not_read : (name : Bor Text) (why : FileError) (error : CallError) → NoCall error ≡ of_reading name why → ⊥
not_read name failure.Memory error same = cc
not_read name (failure.Failed reason) error same = cc

not_words : (why : Unexpanded) (error : CallError) → NoCall error ≡ of_words why → ⊥
not_words (Load number misfit) error same = cc
not_words (NotRead unread) error same = not_read unread.name unread.error error same

not_source : (source : From) (error : CallError) → IsTroubleWithSource source (NoCall error) → ⊥
not_source Standard error with = with
not_source (File name) error with = with
not_source (Named text listing) error with = with
not_source (Parts text listing) error (inl with) = with
not_source (Parts text listing) error (inr with) = with

not_run : (source : From) (target : Option (Bor Text)) (error : CallError)
    → IsTroubleWithRun source target (NoCall error) → ⊥
not_run source None error with = not_source source error with
not_run source (Some target) error (inl with) = not_source source error with
not_run source (Some target) error (inr with) = with

no_mistake : (holds : Holding) (call : Call) (error : CallError) → HasCallTrouble holds call (NoCall error) → ⊥
no_mistake holds call error (Expanding why is same) = not_words why error same
no_mistake holds call error (Loose words are loose same) = cc
no_mistake holds call error (Running (inl with)) = not_run (text_source call.source) call.target error with
no_mistake holds call error (Running (inr with)) = with

is_said : (holds : Holding) (call : Call) (trouble : Trouble) (old told new : Option (List ℕ))
    → HasCallTrouble holds call trouble
    → (is_early trouble ≡ true → Keeps old told) → Says Tells trouble told new → IsSaid trouble old new
is_said holds call (NoCall error) old told new has silent says = absurd (no_mistake holds call error has)
is_said holds call (NoLoad number misfit) old told new has silent says = tells_behind old told new _ (silent refl) says
is_said holds call (Unread name error) old told new has silent says = tt
is_said holds call (Unwritten name error) old told new has silent says = tt
is_said holds call LooseDump old told new has silent says = tells_behind old told new _ (silent refl) says
is_said holds call Input old told new has silent says = tells_behind old told new _ (silent refl) says
is_said holds call Memory old told new has silent says = tt

-- ---- failures

-- where no file changes, none is begun
pub not_begun : (before after : Holding) (names : List Text) → after ≡ before → HasBegun before after names
not_begun before after names kept = rw kept ([], [], none_begun before (files_of names [] []))

pub mistaken : (before : Holding) (words : List Text) (error : CallError) (input output old new : Option (List ℕ))
    (status : ℕ) → IsMistake words error
    → status ≡ status_of (NoCall error) → Says Tells (NoCall error) old new
    → IsFailure before before words (streams input output old) (streams input output new) status
mistaken before words error input output old new status is ends says = record {
  trouble = NoCall error;
  why = Mistaken error refl is;
  ends = ends;
  said = says;
  unwritten = Keeps-refl output;
  kept = not_begun before before (dumps words) refl;
}

pub called : (before after : Holding) (words : List Text) (call : Call) (trouble : Trouble) (old new : Streams)
    (told : Option (List ℕ)) (status : ℕ)
    → IsCall words call → HasCallTrouble before call trouble → status ≡ status_of trouble
    → (is_early trouble ≡ true → Keeps old.errors told) → Says Tells trouble told new.errors
    → Keeps old.output new.output → HasBegun before after (texts call.dumps.items)
    → IsFailure before after words old new status
called before after words call trouble old new told status is has ends silent says unwritten kept = record {
  trouble = trouble;
  why = Called call is has;
  ends = ends;
  said = is_said before call trouble old.errors told new.errors has silent says;
  unwritten = unwritten;
  kept = subst (HasBegun before after) is.dumped kept;
}

pub ends_failed : (isa : InstructionSet) (before after : Holding) (call : Call) (trouble : Trouble) (old new : Streams)
    (told : Option (List ℕ)) (status : ℕ)
    → HasCallTrouble before call trouble → status ≡ status_of trouble
    → (is_early trouble ≡ true → Keeps old.errors told) → Says Tells trouble told new.errors
    → Keeps old.output new.output → HasBegun before after (texts call.dumps.items)
    → EndsCall isa before after call old new status
ends_failed isa before after call trouble old new told status has ends silent says unwritten kept =
    Failed trouble has ends (is_said before call trouble old.errors told new.errors has silent says) unwritten kept
