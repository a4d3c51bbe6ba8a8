-- What `lint` and `--explain` do, from what each step did.
use Rattle.std.proofs.Common.{◌≡◌, ℕ, Bool, true, false, List, [], ◌++◌, Option, Some, None, Result, refl, subst}
use Rattle.std.proofs.KnownBytes.{Keeps-refl}
use Rattle.clap.specs.Words.{Text}
use Rattle.c62_answer.specs.Message.{Tells, told_of}
use Rattle.c62_answer.specs.Run.{IsRun, Streams, streams}
use Rattle.c62_answer.proofs.WholeRuns.{told_tells}
use Rattle.clap.specs.declared.error.Error.{Error}
use Rattle.c62_command.specs.CommandLine.{Ask, Document, IsRefusal, asked, rendered}
use Rattle.c62_command.specs.declared.command.Rendering.{Rendering}
use Rattle.c62_command.specs.declared.command.Rendering.TheVariants.{Text as InText, Json as InJson}
use Rattle.c62_command.specs.declared.command.CommandError.TheVariants as refused
use Rattle.c62_command.specs.declared.command.Exclusion.{Exclusion}
use Rattle.c62_command.specs.declared.promise.BadPromise.{BadPromise}
use Rattle.c62_files.specs.Expand.{Holding}
use Rattle.c62_files.specs.Call.{From}
use Rattle.c62_teach.specs.declared.words.Linting.{Linting}
use Rattle.c62_teach.specs.Words.{is_explained, is_lint, lint_blame, linting_of, plain_words}
use Rattle.c62_teach.specs.Linted.{IsLinted}
use Rattle.c62_program.specs.Program.{IsGiven, IsRefusedFor, Lint, Lints, OnBytes, OnNothing, Plain, Refused}
use Rattle.c62_program.specs.Program.{WithMore, is_told, refusal_taught, RunsFrom, RunsLint, RunsTold, RunsWords}
use Rattle.c62_program.specs.Teaching.{AreTold, IsLintRun, RunsMore, TeachesWanted, behind_text, behind_words}
use Rattle.c62_program.specs.Teaching.{listing_name, status_with, text_name}
use Rattle.c62_program.specs.declared.page.TheConstants.{LINT}
use Rattle.c62_op.specs.declared.set.InstructionSet.{InstructionSet}

-- ---- more is told

pub ran_more : (isa : InstructionSet) {E : Type 0} (result : Result (Unit {0}) E) (words : List Text)
    (more : ℕ → List ℕ) (old : Streams)
    (input output told errors : Option (List ℕ)) (status : ℕ)
    → IsRun isa words old (streams input output told) status → told_of result told errors (more status)
    → RunsMore isa words more old (streams input output errors) status
ran_more isa result words more old input output told errors status run says =
    record { told = told; runs = run; behind = told_tells result told errors (more status) says }

-- ---- lint

pub lint_refused : (isa : InstructionSet) {E : Type 0} (result : Result (Unit {0}) E) (holds : Holding)
    (words : List Text) (source : From)
    (input output errors told : Option (List ℕ)) (why : List ℕ) → why ≡ lint_blame words ++ LINT.now
    → linting_of words ≡ None → told_of result errors told why
    → RunsLint isa holds words source (streams input output errors) (streams input output told) 2
lint_refused isa result holds words source input output errors told why is none says =
    Refused none refl (subst (λ (text : List ℕ). Tells errors told text) is (told_tells result errors told why says))
    (Keeps-refl output) (Keeps-refl input)

pub lint_found : (isa : InstructionSet) (holds : Holding) (words : List Text) (source : From) (old new : Streams)
    (status : ℕ)
    (linting : Linting) (bytes lines : List ℕ) (faulty : Bool)
    (name : Text) → name ≡ text_name source → linting_of words ≡ Some linting → IsGiven holds old.input source bytes
    → IsLinted isa linting name bytes lines faulty
    → IsLintRun lines faulty old.output new.output old.errors new.errors status
    → RunsLint isa holds words source old new status
lint_found isa holds words source old new status linting bytes lines faulty name is some given found run =
    Lints linting some bytes given lines faulty
    (subst (λ (n : Text). IsLinted isa linting n bytes lines faulty) is found)
    run

-- ---- what words ask for

pub refused_setting : (wanted : Bool) (words : List Text) (number : ℕ) (more : List ℕ)
    → IsRefusal (refused.Setting number) words
    → more ≡ refusal_taught wanted words (refused.Setting number) → IsRefusedFor wanted words more
refused_setting wanted words number more is says = record
    { error = refused.Setting number; known = λ same. cc; refused = is; taught = says }

pub refused_promise : (wanted : Bool) (words : List Text) (bad : BadPromise) → IsRefusal (refused.Promise bad) words
    → IsRefusedFor wanted words []
refused_promise wanted words bad is = record
    { error = refused.Promise bad; known = λ same. cc; refused = is; taught = refl }

pub refused_excluded : (wanted : Bool) (words : List Text) (exclusion : Exclusion)
    → IsRefusal (refused.Excluded exclusion) words → IsRefusedFor wanted words []
refused_excluded wanted words exclusion is = record
    { error = refused.Excluded exclusion; known = λ same. cc; refused = is; taught = refl }

pub refused_words : (wanted : Bool) (words : List Text) (error : Error) → IsRefusal (refused.Words error) words
    → IsRefusedFor wanted words []
refused_words wanted words error is = record
    { error = refused.Words error; known = λ same. cc; refused = is; taught = refl }

-- ---- words of which more is told

taught_so : (isa : InstructionSet) (wanted : Bool) (ask : Ask) (name listing text more : List ℕ)
    → TeachesWanted isa wanted ask name listing text more
    → TeachesWanted isa wanted (Document ask) name listing text more
taught_so isa true ask name listing text more is = is
taught_so isa false ask name listing text more is = is

-- the same is told of a text, whatever its answer is told in
pub told_so : (isa : InstructionSet) (rendering : Rendering) (wanted : Bool) (ask : Ask)
    (name listing text refused apart faulted : List ℕ)
    (meets : Bool) → AreTold isa wanted ask name listing text refused apart faulted meets
    → AreTold isa wanted (rendered rendering ask) name listing text refused apart faulted meets
told_so isa InText wanted ask name listing text refused apart faulted meets are = are
told_so isa InJson wanted ask name listing text refused apart faulted meets are = record {
  explains = taught_so isa wanted ask name listing text refused are.explains;
  watches = are.watches;
  faults = are.faults;
  which = are.which;
  both = are.both;
}

pub nothing_told : (isa : InstructionSet) (holds : Holding) (words plain : List Text) (source : From)
    (old new : Streams) (explained : Bool)
    (more : List ℕ) (status : ℕ)
    → explained ≡ is_explained words → plain ≡ plain_words words
    → IsRefusedFor explained plain more → RunsMore isa plain (behind_words more) old new status
    → RunsTold isa holds words source old new status
nothing_told isa holds words plain source old new explained more status wanted is refused run =
    OnNothing more (rw (← wanted, ← is) refused) (rw (← is) run)

pub bytes_told : (isa : InstructionSet) (holds : Holding) (words plain : List Text) (source : From) (old new : Streams)
    (explained : Bool)
    (bytes refused apart faulted : List ℕ) (meets : Bool) (left : Option (List ℕ)) (status : ℕ) (ask : Ask)
    (name listing : Text)
    → explained ≡ is_explained words → plain ≡ plain_words words → name ≡ text_name source
    → listing ≡ listing_name source → asked plain ≡ Some ask → IsGiven holds old.input source bytes
    → AreTold isa explained ask name listing bytes refused apart faulted meets
    → RunsMore isa plain (behind_text refused apart faulted) (streams (Some bytes) old.output old.errors)
    (streams left new.output new.errors) status
    → RunsTold isa holds words source old new (status_with meets status)
bytes_told isa holds words plain source old new explained bytes refused apart faulted meets left status ask name listing
    wanted is named listed asks given told run =
    OnBytes bytes left given refused apart faulted meets status
    (rw (← wanted, ← is, asks) (rw (named, listed) at told))
    (rw (← is) run) refl

-- ---- words

pub words_lint : (isa : InstructionSet) (holds : Holding) (words : List Text) (source : From) (old new : Streams)
    (status : ℕ)
    → is_lint words ≡ true
    → RunsLint isa holds words source old new status → RunsWords isa holds words source old new status
words_lint isa holds words source old new status is run = Lint is run

pub words_told : (isa : InstructionSet) (holds : Holding) (words : List Text) (source : From) (old new : Streams)
    (status : ℕ)
    → is_told words ≡ true → RunsTold isa holds words source old new status
    → RunsWords isa holds words source old new status
words_told isa holds words source old new status is run = WithMore is run

pub words_plain : (isa : InstructionSet) (holds : Holding) (words : List Text) (source : From) (old new : Streams)
    (status : ℕ)
    → is_lint words ≡ false → is_told words ≡ false → RunsFrom isa holds words source old new status
    → RunsWords isa holds words source old new status
words_plain isa holds words source old new status lint told run = Plain lint told run
