-- What a call does, from what each step of it did.
use Rattle.std.proofs.Common.{◌≡◌, ℕ, ◌≤◌, Bool, true, false, List, [], ◌∷◌, length, Option, Some, None, refl, sym}
use Rattle.std.proofs.Common.{subst, inl}
use Rattle.std.specs.Prelude.{is_some, map}
use Rattle.std.specs.Borrow.{Bor}
use Rattle.std.proofs.KnownBytes.{Keeps-refl}
use Rattle.clap.specs.Words.{Text}
use Rattle.c62_answer.specs.Run.{Streams, streams}
use Rattle.c62_files.specs.Call.{From, text_source}
use Rattle.c62_files.specs.Expand.{Expands, Holding}
use Rattle.c62_files.specs.Words.{text_piece, texts}
use Rattle.c62_files.specs.declared.call.Call.{Call}
use Rattle.c62_program.specs.declared.trouble.Trouble.{Trouble}
use Rattle.c62_program.specs.declared.trouble.Trouble.TheVariants.{NoCall, NoLoad, Unread, Unwritten, LooseDump, Input}
use Rattle.c62_program.specs.declared.trouble.Trouble.TheVariants.{Memory}
use Rattle.c62_program.specs.Trouble.{HasCallTrouble, IsCountTrouble, IsTroubleWithRun}
use Rattle.c62_program.specs.Trouble.{IsTroubleWithSource, IsTroubleWriting, Loose, Running, is_early}
use Rattle.c62_program.specs.declared.dumping.Kept.{Kept}
use Rattle.c62_program.specs.Program.{IsKeptFor, RunsCall, RunsKeeping, RunsTarget, RunsTo, RunsWords}
use Rattle.c62_program.specs.Program.{is_made, is_plain}
use Rattle.c62_files.specs.Writing.{IsReplaced}
use Rattle.c62_teach.specs.Words.{plain_words}
use Rattle.c62_program.proofs.Failing.{memory_with}
use Rattle.c62_op.specs.declared.set.InstructionSet.{InstructionSet}

pub not_both : (b : Bool) → b ≡ false → b ≡ true → ⊥
not_both b is_false is_true = cc

-- ---- an answer that goes to a file

pub made_none : (isa : InstructionSet) (holds : Holding) (words : List Text) (source : From) (target : Text)
    (input left errors told : Option (List ℕ)) (answer : List ℕ) (status : ℕ)
    → is_made words status ≡ false
    → RunsWords isa holds words source (streams input (Some []) errors) (streams left (Some answer) told) status
    → RunsTo isa holds holds words source target (streams input None errors) (streams left None told) status
made_none isa holds words source target input left errors told answer status is_false run = record {
  answer = answer;
  runs = run;
  made = λ is_true. absurd (not_both (is_made words status) is_false is_true);
  kept = λ e. refl;
}

pub made_one : (isa : InstructionSet) (before after : Holding) (words : List Text) (source : From) (target : Text)
    (input left errors told : Option (List ℕ)) (answer : List ℕ) (status : ℕ)
    → is_made words status ≡ true → IsReplaced before target answer after
    → RunsWords isa before words source (streams input (Some []) errors) (streams left (Some answer) told) status
    → RunsTo isa before after words source target (streams input None errors) (streams left None told) status
made_one isa before after words source target input left errors told answer status is_true holds run = record {
  answer = answer;
  runs = run;
  made = λ e. holds;
  kept = λ is_false. absurd (not_both (is_made words status) is_false is_true);
}

pub is_late : (name : Text) (trouble : Trouble) → IsTroubleWriting name trouble → is_early trouble ≡ true → ⊥
is_late name (NoCall error) with is = with
is_late name (NoLoad number misfit) with is = with
is_late name (Unread unread error) with is = with
is_late name (Unwritten unwritten error) with is = cc
is_late name LooseDump with is = with
is_late name Input with is = with
is_late name Memory with is = cc

-- ---- where an answer goes

pub target_to : (isa : InstructionSet) (before after : Holding) (words : List Text) (source : From) (target : Bor Text)
    (input left output errors told : Option (List ℕ)) (status : ℕ)
    → RunsTo isa before after words source target.now (streams input None errors) (streams left None told) status
    → RunsTarget isa before after words source (Some target) (streams input output errors)
    (streams left output told) status
target_to isa before after words source target input left output errors told status run =
    (record { answer = run.answer; runs = run.runs; made = run.made; kept = run.kept }, Keeps-refl output)

-- ---- a call

-- nothing is kept, or something is
pub called : (isa : InstructionSet) (before after : Holding) (call : Call) (words : List Text) (kept : Kept)
    (plain : Bool) (old new : Streams) (status : ℕ)
    → Expands before (map text_piece call.words.items) words
    → IsKeptFor (length call.dumps.items) (is_some call.target) (plain_words words) kept
    → is_plain (texts call.dumps.items) kept.note.items ≡ plain
    → RunsKeeping plain isa before after words call kept old new status
    → RunsCall isa before after call old new status
called isa before after call words kept plain old new status are keeps is run = record {
  words = words;
  expanded = are;
  kept = kept;
  keeps = keeps;
  runs = subst (λ (b : Bool). RunsKeeping b isa before after words call kept old new status) (sym is) run;
}

-- ---- trouble

pub run_memory : (source : From) (target : Option (Bor Text)) (trouble : Trouble) → trouble ≡ Memory
    → IsTroubleWithRun source target trouble
run_memory source None trouble is = memory_with source trouble is
run_memory source (Some target) trouble is = inl (memory_with source trouble is)

pub source_run : (source : From) (target : Option (Bor Text)) (trouble : Trouble) → IsTroubleWithSource source trouble
    → IsTroubleWithRun source target trouble
source_run source None trouble with = with
source_run source (Some target) trouble with = inl with

pub count_trouble : (holds : Holding) (call : Call) (words : List Text) (trouble : Trouble)
    → Expands holds (map text_piece call.words.items) words
    → IsCountTrouble (length call.dumps.items) (plain_words words) trouble → HasCallTrouble holds call trouble
count_trouble holds call words LooseDump are loose = Loose words are loose refl
count_trouble holds call words Memory are any = Running
    (inl (run_memory (text_source call.source) call.target Memory refl))
count_trouble holds call words _ are none = absurd none

pub run_trouble : (holds : Holding) (call : Call) (trouble : Trouble)
    → IsTroubleWithRun (text_source call.source) call.target trouble → HasCallTrouble holds call trouble
run_trouble holds call trouble with = Running (inl with)
