-- What is told whole is told, and a run on bytes in memory.
use Rattle.std.proofs.Common.{◌≡◌, ℕ, List, Option, Some, None, Result, Ok, Err, sym, subst, inl, inr}
use Rattle.std.specs.Prelude.{◌⊎◌, [], codes}
use Rattle.std.specs.Option.{IsSomeAnd}
use Rattle.std.specs.Io.KnownBytes.{Keeps}
use Rattle.c62_answer.specs.Message.{IsFront, IsToldOf, Telling, Tells, TellsOf, TellsOutcome, drained_message, told_of}
use Rattle.c62_answer.specs.Run.{AsksNothing, IsBadWord, BeginsAnswer, BreaksOff, Does, Ends, EndsOnBytes, IsAnswer}
use Rattle.c62_answer.specs.Run.{IsRun, IsRunBy, IsRunOnBytes, Streams}
use Rattle.c62_command.specs.CommandLine.{Ask, IsUnknown, asked}
use Rattle.clap.specs.Words.{Text}
use Rattle.c62_answer.specs.declared.outcome.Outcome.{Outcome}
use Rattle.c62_answer.specs.declared.outcome.Outcome.TheVariants.{Done, Drained, NotSame, Breached, Looped}
use Rattle.c62_answer.proofs.Telling.{whole_told}
use Rattle.c62_op.specs.declared.set.InstructionSet.{InstructionSet}

-- ---- what is told whole is told

module _ (isa : InstructionSet) (Told Other : Telling)
    (weaker : (old new : Option (List ℕ)) (text : List ℕ) → Told old new text
    → Other old new text) where
  told_weaker : (IsText : List ℕ → Type 0) (old new : Option (List ℕ)) → TellsOf Told IsText old new
      → TellsOf Other IsText old new
  told_weaker IsText old new told = record { text = told.text; is = told.is; told = weaker old new told.text told.told }

  outcome_weaker : (outcome : Outcome) (old new : Option (List ℕ)) → TellsOutcome Told outcome old new
      → TellsOutcome Other outcome old new
  outcome_weaker Done old new told = told
  outcome_weaker (Drained added) old new told = weaker old new (drained_message added) told
  outcome_weaker NotSame old new told = told
  outcome_weaker (Breached breach) old new told = told
  outcome_weaker (Looped lines breach) old new told = weaker old new lines.items told

  asked_weaker : (words : List Text) (old new : Option (List ℕ)) → AsksNothing Told words old new
      → AsksNothing Other words old new
  asked_weaker words old new (inl unknown) = inl unknown
  asked_weaker words old new (inr told) = inr (told_weaker _ old new told)

  stream_weaker : (old new : Option (List ℕ)) (text other : List ℕ) → Told old new text ⊎ Told old new other
      → Other old new text ⊎ Other old new other
  stream_weaker old new text other (inl told) = inl (weaker old new text told)
  stream_weaker old new text other (inr told) = inr (weaker old new other told)

  pub run_weaker : (words : List Text) (old new : Streams) (status : ℕ) → IsRunBy isa Told words old new status
      → IsRunBy isa Other words old new status
  run_weaker words old new status run = record {
    known = run.known;
    done = λ e. let ended = run.done e in record {
      outcome = ended.outcome;
      ends = ended.ends;
      done = ended.done;
      told = outcome_weaker ended.outcome old.errors new.errors ended.told;
    };
    refused = λ e. told_weaker _ old.errors new.errors (run.refused e);
    blamed = λ e. asked_weaker words old.errors new.errors (run.blamed e);
    judged = run.judged;
    unread = run.unread;
    memory = λ e. weaker old.errors new.errors (codes "memory\n") (run.memory e);
    stream = λ e. stream_weaker old.errors new.errors (codes "input\n") (codes "output\n") (run.stream e);
    broken = run.broken;
    quiet = run.quiet;
    most = run.most;
  }

-- told whole, or a front of it, it is told
pub told_tells : {E : Type 0} (told : Result (Unit {0}) E) (old new : Option (List ℕ)) (text : List ℕ)
    → told_of told old new text → Tells old new text
told_tells (Ok done) old new text all = whole_told old new text all
told_tells (Err refused) old new text front = front

-- ---- a run on bytes

-- the bytes that a stream that held nothing holds now
pub held : (bytes text : List ℕ) → Tells (Some []) (Some bytes) text → IsFront bytes text
held bytes text told = (told.0, told.1)

pub on_bytes : (isa : InstructionSet) (words : List Text) (input rest output errors : List ℕ) (status : ℕ)
    → IsRun isa words (record { input = Some input; output = Some []; errors = Some [] })
    (record { input = Some rest; output = Some output; errors = Some errors }) status
    → IsRunOnBytes isa words input output errors status
on_bytes isa words input rest output errors status run = record {
  known = run.known;
  done = λ e. ended_in (run.done e);
  refused = λ e. let told = run.refused e in (told.text, told.is, held errors told.text told.told);
  blamed = λ e. blamed_in (run.blamed e);
  judged = run.judged;
  memory = λ e. held errors (codes "memory\n") (run.memory e);
  stream = λ e. cut_off_in (run.stream e);
  broken = λ e. broken_in (run.broken e);
  quiet = run.quiet;
}
  where
    answered_in : (outcome : Outcome) (a : Option Ask)
        → IsSomeAnd a (λ ask. Does isa ask outcome (Some input) (Some []) (Some output))
        → IsSomeAnd a (λ ask. IsAnswer isa ask outcome input output)
    answered_in outcome None none = absurd none
    answered_in outcome (Some ask) does =
        subst (λ (text : List ℕ). IsAnswer isa ask outcome text output) (sym does.same)
        (subst (IsAnswer isa ask outcome does.text) (sym does.written) does.is)

    told_in : (outcome : Outcome) → TellsOutcome Tells outcome (Some []) (Some errors) → IsToldOf outcome errors
    told_in Done told = told
    told_in (Drained added) told = held errors (drained_message added) told
    told_in NotSame told = told
    told_in (Breached breach) told = told
    told_in (Looped lines breach) told = held errors lines.items told

    ended_in : Ends isa Tells words (record { input = Some input; output = Some []; errors = Some [] })
        (record { input = Some rest; output = Some output; errors = Some errors }) status
        → EndsOnBytes isa words input output errors status
    ended_in ended = record {
      outcome = ended.outcome;
      ends = ended.ends;
      done = answered_in ended.outcome (asked words) ended.done;
      told = told_in ended.outcome ended.told;
    }

    blamed_in : AsksNothing Tells words (Some []) (Some errors) → IsUnknown words
        ⊎ ((message : List ℕ) × IsBadWord words message × IsFront errors message)
    blamed_in (inl unknown) = inl unknown
    blamed_in (inr told) = inr (told.text, told.is, held errors told.text told.told)

    cut_off_in : Tells (Some []) (Some errors) (codes "input\n") ⊎ Tells (Some []) (Some errors) (codes "output\n")
        → IsFront errors (codes "input\n") ⊎ IsFront errors (codes "output\n")
    cut_off_in (inl told) = inl (held errors (codes "input\n") told)
    cut_off_in (inr told) = inr (held errors (codes "output\n") told)

    front_in : (a : Option Ask) → IsSomeAnd a (λ ask. BreaksOff isa ask (Some input) (Some []) (Some output))
        → IsSomeAnd a (λ ask. BeginsAnswer isa ask input output)
    front_in None none = absurd none
    front_in (Some ask) off = record {
      outcome = off.outcome;
      answer = off.answer;
      is = subst (λ (text : List ℕ). IsAnswer isa ask off.outcome text off.answer) (sym off.same) off.is;
      front = held output off.answer off.written;
    }

    broken_in : Keeps (Some []) (Some output)
        ⊎ IsSomeAnd (asked words) (λ ask. BreaksOff isa ask (Some input) (Some []) (Some output))
        → (output ≡ []) ⊎ IsSomeAnd (asked words) (λ ask. BeginsAnswer isa ask input output)
    broken_in (inl kept) = inl kept
    broken_in (inr off) = inr (front_in (asked words) off)
