-- What answers that which is taken of a text answers the text.
use Rattle.std.proofs.Common.{ℕ, List, Ok, Err, Result, inl, inr}
use Rattle.c62_reach.specs.Taken.{IsTaken}
use Rattle.c62_command.specs.CommandLine.{Ask, Reaching}
use Rattle.c62_answer.specs.declared.failure.Failure.{Failure}
use Rattle.c62_answer.specs.declared.failure.Failure.TheVariants as failures
use Rattle.c62_answer.specs.declared.outcome.Reply.{Reply}
use Rattle.c62_answer.specs.Run.{Gives, TakesNothing}
use Rattle.c62_op.specs.declared.set.InstructionSet.{InstructionSet}

module _ (isa : InstructionSet) (ask : Ask) (name text : List ℕ) where
  -- where nothing was taken, that is the answer
  pub not_reached : (f : Failure) → TakesNothing isa name text f → Gives isa (Reaching name ask) text (Err f)
  not_reached (failures.Unread fault) gives = absurd gives
  not_reached (failures.Unlisted fault) gives = absurd gives
  not_reached (failures.Unadopted fault) gives = absurd gives
  not_reached (failures.Unflown fault) gives = inl gives
  not_reached (failures.TextPart fault) gives = absurd gives
  not_reached (failures.ListingPart fault) gives = absurd gives
  not_reached (failures.PacketsPart fault) gives = absurd gives
  not_reached failures.NoListing gives = absurd gives
  not_reached (failures.RowsPart fault) gives = absurd gives
  not_reached (failures.NoLoop k) gives = absurd gives
  not_reached (failures.Promise bad) gives = absurd gives
  not_reached (failures.Excluded exclusion) gives = absurd gives
  not_reached (failures.Words e) gives = absurd gives
  not_reached (failures.Setting k) gives = absurd gives
  not_reached failures.Memory gives = tt
  not_reached failures.Input gives = absurd gives
  not_reached failures.Output gives = absurd gives

  pub reached : (taken : List ℕ) (result : Result Reply Failure) → IsTaken isa name text taken
      → Gives isa ask taken result
      → Gives isa (Reaching name ask) text result
  reached taken (Ok reply) is gives = (taken, is, gives)
  reached taken (Err (failures.Unread fault)) is gives = inr (taken, is, gives)
  reached taken (Err (failures.Unlisted fault)) is gives = inr (taken, is, gives)
  reached taken (Err (failures.Unadopted fault)) is gives = inr (taken, is, gives)
  reached taken (Err (failures.Unflown fault)) is gives = inr (taken, is, gives)
  reached taken (Err (failures.TextPart fault)) is gives = inr (taken, is, gives)
  reached taken (Err (failures.ListingPart fault)) is gives = inr (taken, is, gives)
  reached taken (Err (failures.PacketsPart fault)) is gives = inr (taken, is, gives)
  reached taken (Err (failures.RowsPart fault)) is gives = inr (taken, is, gives)
  reached taken (Err failures.NoListing) is gives = inr (taken, is, gives)
  reached taken (Err (failures.NoLoop k)) is gives = inr (taken, is, gives)
  reached taken (Err (failures.Promise bad)) is gives = absurd gives
  reached taken (Err (failures.Excluded exclusion)) is gives = absurd gives
  reached taken (Err (failures.Words e)) is gives = absurd gives
  reached taken (Err (failures.Setting k)) is gives = absurd gives
  reached taken (Err failures.Memory) is gives = tt
  reached taken (Err failures.Input) is gives = absurd gives
  reached taken (Err failures.Output) is gives = absurd gives
