-- What a run does of which something is kept, from what each step of it did.
use Rattle.std.proofs.Common.{◌≡◌, ◌≢◌, ◌∙◌, ℕ, Bool, true, false, List, [], ◌∷◌, length, Option, Some, None, Result}
use Rattle.std.proofs.Common.{Ok, Err, drop, refl, sym, ap, subst, inl, inr}
use Rattle.std.specs.Prelude.{OnErr}
use Rattle.std.specs.Option.{IsSomeAnd}
use Rattle.std.specs.Borrow.{Bor}
use Rattle.std.proofs.KnownBytes.{Keeps-refl}
use Rattle.clap.specs.Words.{Text}
use Rattle.c62_answer.specs.Message.{Tells, told_of}
use Rattle.c62_answer.specs.Run.{streams}
use Rattle.c62_answer.proofs.WholeRuns.{told_tells}
use Rattle.c62_command.specs.CommandLine.{Ask, asked}
use Rattle.c62_dumping.specs.Counts.{counts_asked}
use Rattle.c62_dumping.specs.Cut.{dumped_in, files_of, report_in}
use Rattle.c62_dumping.specs.Limit.{limit_note, limit_said}
use Rattle.c62_files.specs.Call.{text_source}
use Rattle.c62_files.specs.Words.{texts}
use Rattle.c62_files.specs.Writing.{AreBegun, AreWritten, Holding, IsNameIn}
use Rattle.c62_files.specs.declared.call.Call.{Call}
use Rattle.c62_files.proofs.WrittenFiles.{written_begun}
use Rattle.c62_program.specs.declared.trouble.Trouble.{Trouble}
use Rattle.c62_program.specs.declared.trouble.Trouble.TheVariants.{NoCall, NoLoad, Unread, Unwritten, LooseDump, Input}
use Rattle.c62_program.specs.declared.trouble.Trouble.TheVariants.{Memory}
use Rattle.c62_program.specs.Trouble.{IsAmong, IsLoose, IsTroubleDumping, IsTroubleWithCall, IsTroubleWithRun}
use Rattle.c62_program.specs.Trouble.{IsTroubleWriting, IsTroubleWritingTo, is_early}
use Rattle.c62_program.specs.declared.dumping.Kept.{Kept}
use Rattle.c62_program.specs.Program.{AsksFor, HasBegun, IsDelivered, IsKept, IsKeptFor, IsKeptOf}
use Rattle.c62_program.specs.Program.{RunsDumping, RunsWords, is_made}
use Rattle.c62_program.proofs.Calling.{is_late, not_both}
use Rattle.c62_op.specs.declared.set.InstructionSet.{InstructionSet}

pub on_err : {T E P : Type 0} (r : Result T E) → P → OnErr r P
on_err (Ok value) p = tt
on_err (Err error) p = p

-- ---- counts

pub kept_none : (names : ℕ) (to_file : Bool) (words : List Text) (found : Option Kept) (kept : Kept)
    → IsKeptOf to_file words found → found ≡ None → kept.counts.items ≡ [] → kept.note.items ≡ []
    → IsKeptFor names to_file words kept
kept_none names to_file words found kept are none counts note =
    inl (subst (IsKeptOf to_file words) none are, counts, note)

pub kept_some : (names : ℕ) (to_file : Bool) (words : List Text) (found : Option Kept) (kept : Kept)
    → IsKeptOf to_file words found → found ≡ Some kept → length kept.counts.items ≡ names
    → IsKeptFor names to_file words kept
kept_some names to_file words found kept are some same = inr (same, subst (IsKeptOf to_file words) some are)

pub asks_for : (to_file : Bool) (words : List Text) (kept : Kept) (ask : Ask) → asked words ≡ Some ask
    → kept.counts.items ≡ counts_asked ask → kept.note.items ≡ limit_note to_file ask → AsksFor to_file words kept
asks_for to_file words kept ask is counts note = rw is (record { counts = counts; note = note })

loose_ask : (names : ℕ) (to_file : Bool) (kept : Kept) (ask : Option Ask) → IsSomeAnd ask (IsKept to_file kept)
    → length kept.counts.items ≢ names
    → IsSomeAnd ask (λ a. length (counts_asked a) ≢ names)
loose_ask names to_file kept None asks other = asks
loose_ask names to_file kept (Some ask) asks other = λ same. other (ap length asks.counts ∙ same)

pub is_loose : (names : ℕ) (to_file : Bool) (words : List Text) (kept : Kept) (found : Option Kept)
    → IsKeptOf to_file words found → found ≡ Some kept
    → length kept.counts.items ≢ names → IsLoose names words
is_loose names to_file words kept found are some other = loose_ask names to_file kept (asked words)
    (subst (IsKeptOf to_file words) some are) other

-- ---- trouble

-- the files have no other names
named_among : (name : Text) (names : List Text) (counts bytes : List ℕ) → IsNameIn name (files_of names counts bytes)
    → IsAmong name names
unfolding files_of
named_among name [] counts bytes with = with
named_among name (other ∷ names) [] bytes with = absurd with
named_among name (other ∷ names) (count ∷ counts) bytes (inl same) = inl same
named_among name (other ∷ names) (count ∷ counts) bytes (inr with) = inr
    (named_among name names counts (drop count bytes) with)

trouble_among : (name : Text) (names : List Text) (trouble : Trouble) → IsAmong name names
    → IsTroubleWriting name trouble → IsTroubleDumping names trouble
trouble_among name names (NoCall error) among with = with
trouble_among name names (NoLoad number misfit) among with = with
trouble_among name names (Unread unread error) among with = with
trouble_among name names (Unwritten unwritten error) among with = subst (λ n. IsAmong n names) (sym with) among
trouble_among name names LooseDump among with = with
trouble_among name names Input among with = with
trouble_among name names Memory among with = tt

pub dump_trouble : (name : Text) (names : List Text) (counts bytes : List ℕ) (files : List (Text × List ℕ))
    (trouble : Trouble) → files ≡ files_of names counts bytes
    → IsNameIn name files → IsTroubleWriting name trouble → IsTroubleDumping names trouble
dump_trouble name names counts bytes files trouble are among with =
    trouble_among name names trouble (named_among name names counts bytes (subst (IsNameIn name) are among)) with

pub memory_dumping : (names : List Text) (trouble : Trouble) → trouble ≡ Memory → IsTroubleDumping names trouble
memory_dumping names trouble is = rw is tt

pub dump_late : (names : List Text) (trouble : Trouble) → IsTroubleDumping names trouble → is_early trouble ≡ true → ⊥
dump_late names (NoCall error) with is = with
dump_late names (NoLoad number misfit) with is = with
dump_late names (Unread unread error) with is = with
dump_late names (Unwritten unwritten error) with is = cc
dump_late names LooseDump with is = with
dump_late names Input with is = with
dump_late names Memory with is = cc

pub deliver_late : (target : Option (Bor Text)) (trouble : Trouble) → IsTroubleWritingTo target trouble
    → is_early trouble ≡ true → ⊥
deliver_late None trouble with is = with
deliver_late (Some target) trouble with is = is_late target.now trouble with is

with_run : (call : Call) (trouble : Trouble) (target : Option (Bor Text)) → IsTroubleWritingTo target trouble
    → IsTroubleWithRun (text_source call.source) target trouble
with_run call trouble None with = absurd with
with_run call trouble (Some target) with = inr with

pub deliver_trouble : (call : Call) (trouble : Trouble) → IsTroubleWritingTo call.target trouble
    → IsTroubleWithCall call trouble
deliver_trouble call trouble with = inl (with_run call trouble call.target with)

-- ---- files

pub has_begun : (before after : Holding) (names : List Text) (counts bytes : List ℕ)
    → AreBegun before (files_of names counts bytes) after → HasBegun before after names
has_begun before after names counts bytes begun = (counts, bytes, begun)

pub has_written : (before between after : Holding) (names : List Text) (counts bytes : List ℕ)
    → AreWritten before (files_of names counts bytes) between
    → after ≡ between → HasBegun before after names
has_written before between after names counts bytes written kept =
    rw kept (counts, bytes, written_begun before between (files_of names counts bytes) written)

-- ---- runs

pub dumped_none : (isa : InstructionSet) (holds : Holding) (words : List Text) (call : Call) (kept : Kept)
    (answer : List ℕ)
    (input left output errors told : Option (List ℕ)) (done : ℕ)
    → is_made words done ≡ false
    → RunsWords isa holds words (text_source call.source) (streams input (Some []) errors)
    (streams left (Some answer) told) done
    → RunsDumping isa holds holds words call kept (streams input output errors) (streams left output told) done
dumped_none isa holds words call kept answer input left output errors told done is_false run = record {
  answer = answer;
  done = done;
  told = told;
  noted = told;
  runs = run;
  limited = λ is_true. absurd (not_both (is_made words done) is_false is_true);
  made = λ is_true. absurd (not_both (is_made words done) is_false is_true);
  none = λ e. record { kept = refl; ends = refl; unwritten = Keeps-refl output; silent = Keeps-refl told };
}

pub dumped_all : (isa : InstructionSet) {E : Type 0} (result : Result (Unit {0}) E) (before between after : Holding)
    (words : List Text) (call : Call) (kept : Kept) (answer report memory said : List ℕ)
    (input left output written errors told noted ended : Option (List ℕ)) (done status : ℕ)
    → is_made words done ≡ true
    → RunsWords isa before words (text_source call.source) (streams input (Some []) errors)
    (streams left (Some answer) told) done
    → report ≡ report_in kept.counts.items answer → memory ≡ dumped_in kept.counts.items answer
    → said ≡ limit_said kept.note.items report → told_of result told noted said
    → AreWritten before (files_of (texts call.dumps.items) kept.counts.items memory) between
    → IsDelivered between after call.target report done output written noted ended status
    → RunsDumping isa before after words call kept (streams input output errors) (streams left written ended) status
dumped_all isa result before between after words call kept answer report memory said input left output written errors
    told noted ended done status is_true run reports remembers says tells files delivered =
    record {
      answer = answer;
      done = done;
      told = told;
      noted = noted;
      runs = run;
      limited = λ e. subst (λ (text : List ℕ). Tells told noted text) (says ∙ ap (limit_said kept.note.items) reports)
          (told_tells result told noted said tells);
      made = λ e. record {
        between = between;
        written = subst (λ bytes. AreWritten before (files_of (texts call.dumps.items) kept.counts.items bytes) between)
            remembers files;
        delivered = subst (λ bytes. IsDelivered between after call.target bytes done output written noted ended status)
            reports delivered;
      };
      none = λ is_false. absurd (not_both (is_made words done) is_false is_true);
    }
