-- What a run did, from what each of its steps did.
use Rattle.std.proofs.Common.{◌≡◌, ℕ, ◌+◌, List, take, Option, Some, None, Ok, Err, refl, sym, subst, arith, rules, inl}
use Rattle.std.proofs.Common.{inr}
use Rattle.std.specs.Prelude.{◌⊎◌, IfSome, codes}
use Rattle.std.specs.Option.{IsSomeAnd}
use Rattle.std.specs.Io.KnownBytes.{Appends, Keeps}
use Rattle.c62_answer.specs.Message.{Telling, Tells, TellsOf, TellsOutcome, adopt_message, fault_message, list_message}
use Rattle.c62_answer.specs.Message.{rows_message, message_of, no_listing, no_loop, of_listing, of_text}
use Rattle.c62_answer.specs.Message.{promise_message, setting_message, exclusion_message}
use Rattle.c62_answer.specs.Run.{AsksInVain, AsksNothing, Blames, BreaksOff, Does, Fails, Gives, HasFailed}
use Rattle.c62_answer.specs.Run.{IsCommandFailure, IsDone, IsRunBy, Streams, TakesAtMost, limit_of, status_done}
use Rattle.c62_answer.specs.Run.{status_of}
use Rattle.c62_command.specs.declared.command.CommandError.{CommandError}
use Rattle.c62_command.specs.declared.command.CommandError.TheVariants as command
use Rattle.c62_command.specs.CommandLine.{Ask, IsRefusal, asked}
use Rattle.clap.specs.Words.{Text}
use Rattle.c62_answer.specs.declared.failure.Failure.{Failure}
use Rattle.c62_answer.specs.declared.failure.Failure.TheVariants as failures
use Rattle.c62_answer.specs.declared.outcome.Outcome.{Outcome}
use Rattle.c62_answer.specs.declared.outcome.Reply.{Reply}
use Rattle.c62_answer.proofs.FrontAnswers.{answered}
use Rattle.c62_answer.proofs.Fronts.{refused}
use Rattle.c62_answer.proofs.Statuses.{neither, most_status, ends_otherwise}
use Rattle.c62_op.specs.declared.set.InstructionSet.{InstructionSet}

-- the answer to what was read, written
pub answers : (isa : InstructionSet) (ask : Ask) (known old new : Option (List ℕ)) (text : List ℕ) (reply : Reply)
    → IfSome known (λ all. text ≡ take (limit_of ask + 1) all)
    → Gives isa ask text (Ok reply) → Appends old new reply.text.items → Does isa ask reply.outcome known old new
answers isa ask None old new text reply read gives written = record {
  text = text;
  same = tt;
  answer = reply.text.items;
  is = gives;
  written = written;
}
answers isa ask (Some all) old new text reply read gives written = record {
  text = all;
  same = refl;
  answer = reply.text.items;
  is = answered isa ask reply.outcome all text reply.text.items read gives;
  written = written;
}

-- a front of the answer to what was read, written
pub breaks_off : (isa : InstructionSet) (ask : Ask) (known old new : Option (List ℕ)) (text : List ℕ) (reply : Reply)
    → IfSome known (λ all. text ≡ take (limit_of ask + 1) all)
    → Gives isa ask text (Ok reply) → Tells old new reply.text.items → BreaksOff isa ask known old new
breaks_off isa ask None old new text reply read gives written = record {
  text = text;
  same = tt;
  outcome = reply.outcome;
  answer = reply.text.items;
  is = gives;
  written = written;
}
breaks_off isa ask (Some all) old new text reply read gives written = record {
  text = all;
  same = refl;
  outcome = reply.outcome;
  answer = reply.text.items;
  is = answered isa ask reply.outcome all text reply.text.items read gives;
  written = written;
}

pub Keeps-same : (known : Option (List ℕ)) → Keeps known known
Keeps-same None = tt
Keeps-same (Some xs) = refl

-- no answer came to what was read
pub refuses : (isa : InstructionSet) (ask : Ask) (known old : Option (List ℕ)) (text : List ℕ) (f : Failure)
    → IfSome known (λ all. text ≡ take (limit_of ask + 1) all) → Gives isa ask text (Err f)
    → Fails isa ask known old old f
refuses isa ask known old text (failures.Unread fault) read gives =
    (refused isa ask known text (fault_message fault.line fault.cause) read gives, Keeps-same old)
refuses isa ask known old text (failures.Unlisted fault) read gives =
    (refused isa ask known text (list_message fault) read gives, Keeps-same old)
refuses isa ask known old text (failures.Unadopted fault) read gives =
    (refused isa ask known text (adopt_message fault) read gives, Keeps-same old)
refuses isa ask known old text (failures.Unflown fault) read gives =
    (refused isa ask known text (rows_message fault) read gives, Keeps-same old)
refuses isa ask known old text (failures.TextPart fault) read gives =
    (refused isa ask known text (of_text (fault_message fault.line fault.cause)) read gives, Keeps-same old)
refuses isa ask known old text (failures.ListingPart fault) read gives =
    (refused isa ask known text (of_listing (list_message fault)) read gives, Keeps-same old)
refuses isa ask known old text (failures.PacketsPart fault) read gives =
    (refused isa ask known text (of_listing (adopt_message fault)) read gives, Keeps-same old)
refuses isa ask known old text (failures.RowsPart fault) read gives =
    (refused isa ask known text (of_listing (rows_message fault)) read gives, Keeps-same old)
refuses isa ask known old text failures.NoListing read gives =
    (refused isa ask known text no_listing read gives, Keeps-same old)
refuses isa ask known old text (failures.NoLoop k) read gives =
    (refused isa ask known text (no_loop k) read gives, Keeps-same old)
refuses isa ask known old text (failures.Promise bad) read gives = absurd gives
refuses isa ask known old text (failures.Excluded exclusion) read gives = absurd gives
refuses isa ask known old text failures.Memory read gives = Keeps-same old
refuses isa ask known old text failures.Input read gives = absurd gives
refuses isa ask known old text failures.Output read gives = absurd gives
refuses isa ask known old text (failures.Words e) read gives = absurd gives
refuses isa ask known old text (failures.Setting k) read gives = absurd gives

-- the words are blamed
pub blamed : (isa : InstructionSet) (error : CommandError) (f : Failure) (words : List Text)
    (known old : Option (List ℕ))
    → IsCommandFailure error f → IsRefusal error words
    → HasFailed isa words known old old f
blamed isa error f words known old is refusal = inl ((error, is, refusal), Keeps-same old)

-- words that ask for something do so
pub for_asked : (words : List Text) (ask : Ask) (P : Ask → Type 0) → asked words ≡ Some ask → P ask
    → IsSomeAnd (asked words) P
for_asked words ask P is p = subst (λ (a : Option Ask). IsSomeAnd a P) (sym is) p

-- ---- a whole run

-- what a run reads
pub record Reads (words : List Text) (old new : Option (List ℕ)) : Type 0 where
  pub unread : asked words ≡ None → Keeps old new
  pub most : (ask : Ask) → asked words ≡ Some ask → TakesAtMost (limit_of ask + 1) old new

some_none : {T : Type 0} (o : Option T) (P : T → Type 0) → IsSomeAnd o P → o ≡ None → ⊥
some_none None P some none = some
some_none (Some x) P some none = absurd cc

pub done : (isa : InstructionSet) (Told : Telling) (words : List Text) (old new : Streams) (outcome : Outcome)
    → Reads words old.input new.input → TellsOutcome Told outcome old.errors new.errors
    → IsDone isa words outcome old.input old.output new.output → IsRunBy isa Told words old new (status_done outcome)
done isa Told words old new outcome reads told does = record {
  known = most_status outcome;
  done = λ _. record { outcome = outcome; ends = refl; done = does; told = told };
  refused = λ e. absurd (ends_otherwise outcome 1 (omega arith) (omega arith) e);
  blamed = λ e. absurd (ends_otherwise outcome 2 (omega arith) (omega arith) e);
  judged = λ none. absurd
      (some_none (asked words) (λ ask. Does isa ask outcome old.input old.output new.output) does none);
  unread = reads.unread;
  memory = λ e. absurd (ends_otherwise outcome 3 (omega arith) (omega arith) e);
  stream = λ e. absurd (ends_otherwise outcome 4 (omega arith) (omega arith) e);
  broken = λ e. absurd (ends_otherwise outcome 4 (omega arith) (omega arith) e);
  quiet = λ more less. absurd (ends_otherwise outcome (status_done outcome) more (omega (arith, less)) refl);
  most = reads.most;
}

module _ (isa : InstructionSet) (Told : Telling) (words : List Text) (old new : Streams)
    (reads : Reads words old.input new.input) where
  is_refused : Keeps old.output new.output → TellsOf Told (AsksInVain isa (asked words) old.input) old.errors new.errors
      → (asked words ≡ None → ⊥) → IsRunBy isa Told words old new 1
  is_refused quiet told some = record {
    known = search rules;
    done = λ e. absurd (neither e (λ zero. omega (arith, zero)) (λ five. omega (arith, five)));
    refused = λ _. told;
    blamed = λ e. absurd (omega arith);
    judged = λ none. absurd (some none);
    unread = reads.unread;
    memory = λ e. absurd (omega arith);
    stream = λ e. absurd (omega arith);
    broken = λ e. absurd (omega arith);
    quiet = λ _ _. quiet;
    most = reads.most;
  }

  is_blamed : Keeps old.output new.output → AsksNothing Told words old.errors new.errors
      → IsRunBy isa Told words old new 2
  is_blamed quiet told = record {
    known = search rules;
    done = λ e. absurd (neither e (λ zero. omega (arith, zero)) (λ five. omega (arith, five)));
    refused = λ e. absurd (omega arith);
    blamed = λ _. told;
    judged = λ _. inl refl;
    unread = reads.unread;
    memory = λ e. absurd (omega arith);
    stream = λ e. absurd (omega arith);
    broken = λ e. absurd (omega arith);
    quiet = λ _ _. quiet;
    most = reads.most;
  }

  is_out_of_memory : Keeps old.output new.output → Told old.errors new.errors (codes "memory\n")
      → IsRunBy isa Told words old new 3
  is_out_of_memory quiet told = record {
    known = search rules;
    done = λ e. absurd (neither e (λ zero. omega (arith, zero)) (λ five. omega (arith, five)));
    refused = λ e. absurd (omega arith);
    blamed = λ e. absurd (omega arith);
    judged = λ _. inr refl;
    unread = reads.unread;
    memory = λ _. told;
    stream = λ e. absurd (omega arith);
    broken = λ e. absurd (omega arith);
    quiet = λ _ _. quiet;
    most = reads.most;
  }

  is_cut_off : Told old.errors new.errors (codes "input\n") ⊎ Told old.errors new.errors (codes "output\n")
      → Keeps old.output new.output ⊎ IsSomeAnd (asked words) (λ ask. BreaksOff isa ask old.input old.output new.output)
      → (asked words ≡ None → ⊥)
      → IsRunBy isa Told words old new 4
  is_cut_off told front some = record {
    known = search rules;
    done = λ e. absurd (neither e (λ zero. omega (arith, zero)) (λ five. omega (arith, five)));
    refused = λ e. absurd (omega arith);
    blamed = λ e. absurd (omega arith);
    judged = λ none. absurd (some none);
    unread = reads.unread;
    memory = λ e. absurd (omega arith);
    stream = λ _. told;
    broken = λ _. front;
    quiet = λ less more. absurd (omega arith);
    most = reads.most;
  }

  -- the words ask for nothing
  is_not_asked : (f : Failure) → Blames f words → Keeps old.output new.output
      → IfSome (message_of f) (Told old.errors new.errors) → IsRunBy isa Told words old new (status_of f)
  is_not_asked f (command.Words e, is, unknown) quiet told = rw is (is_blamed quiet (inl unknown))
  is_not_asked f (command.Setting k, is, bad) quiet told =
      rw is (is_blamed quiet (inr (record { text = setting_message k; is = inl (k, bad, refl); told = rw is at told })))
  is_not_asked f (command.Promise bad, is, why) quiet told =
      rw is (is_blamed quiet
      (inr (record { text = promise_message bad; is = inr (inl (bad, why, refl)); told = rw is at told })))
  is_not_asked f (command.Excluded exclusion, is, why) quiet told =
      rw is (is_blamed quiet
      (inr (record { text = exclusion_message exclusion; is = inr (inr (exclusion, why, refl)); told = rw is at told })))
  is_not_asked f (command.Memory, is, any) quiet told = rw is (is_out_of_memory quiet (rw is at told))

  -- what they ask for was not done
  is_not_done : (f : Failure) (ask : Ask) → asked words ≡ Some ask → Fails isa ask old.input old.output new.output f
      → IfSome (message_of f) (Told old.errors new.errors)
      → IsRunBy isa Told words old new (status_of f)
  is_not_done (failures.Unlisted fault) ask is fails told =
      is_refused fails.1 (record { text = list_message fault; is = for_asked words ask _ is fails.0; told = told })
      (λ none. absurd cc)
  is_not_done (failures.Unadopted fault) ask is fails told =
      is_refused fails.1 (record { text = adopt_message fault; is = for_asked words ask _ is fails.0; told = told })
      (λ none. absurd cc)
  is_not_done (failures.Unflown fault) ask is fails told =
      is_refused fails.1 (record { text = rows_message fault; is = for_asked words ask _ is fails.0; told = told })
      (λ none. absurd cc)
  is_not_done (failures.Unread fault) ask is fails told =
      is_refused fails.1 (record
      { text = fault_message fault.line fault.cause; is = for_asked words ask _ is fails.0; told = told })
      (λ none. absurd cc)
  is_not_done (failures.TextPart fault) ask is fails told =
      is_refused fails.1 (record {
        text = of_text (fault_message fault.line fault.cause);
        is = for_asked words ask _ is fails.0;
        told =
            told;
      }) (λ none. absurd cc)
  is_not_done (failures.ListingPart fault) ask is fails told =
      is_refused fails.1 (record
      { text = of_listing (list_message fault); is = for_asked words ask _ is fails.0; told = told })
      (λ none. absurd cc)
  is_not_done (failures.PacketsPart fault) ask is fails told =
      is_refused fails.1 (record
      { text = of_listing (adopt_message fault); is = for_asked words ask _ is fails.0; told = told })
      (λ none. absurd cc)
  is_not_done (failures.RowsPart fault) ask is fails told =
      is_refused fails.1 (record
      { text = of_listing (rows_message fault); is = for_asked words ask _ is fails.0; told = told })
      (λ none. absurd cc)
  is_not_done (failures.NoLoop k) ask is fails told =
      is_refused fails.1 (record { text = no_loop k; is = for_asked words ask _ is fails.0; told = told })
      (λ none. absurd cc)
  is_not_done (failures.Promise bad) ask is fails told = absurd fails
  is_not_done (failures.Excluded exclusion) ask is fails told = absurd fails
  is_not_done failures.NoListing ask is fails told =
      is_refused fails.1 (record { text = no_listing; is = for_asked words ask _ is fails.0; told = told })
      (λ none. absurd cc)
  is_not_done failures.Memory ask is fails told = is_out_of_memory fails told
  is_not_done failures.Input ask is fails told = is_cut_off (inl told) (inl fails) (λ none. absurd cc)
  is_not_done failures.Output ask is fails told = is_cut_off (inr told) (inr (for_asked words ask _ is fails))
      (λ none. absurd cc)
  is_not_done (failures.Words e) ask is fails told = absurd fails
  is_not_done (failures.Setting k) ask is fails told = absurd fails

  pub failed : (f : Failure) → HasFailed isa words old.input old.output new.output f
      → IfSome (message_of f) (Told old.errors new.errors) → IsRunBy isa Told words old new (status_of f)
  failed f (inl blames) told = is_not_asked f blames.0 blames.1 told
  failed f (inr fails) told = go (asked words) refl fails
    where
      go : (a : Option Ask) → asked words ≡ a → IsSomeAnd a (λ ask. Fails isa ask old.input old.output new.output f)
          → IsRunBy isa Told words old new (status_of f)
      go None is none = absurd none
      go (Some ask) is some = is_not_done f ask is some told
