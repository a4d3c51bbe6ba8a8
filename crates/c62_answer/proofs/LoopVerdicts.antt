-- What is told of a check of loops, from what each step gave.
use Rattle.std.proofs.Common.{◌≡◌, ℕ, ◌<◌, ◌≤◌, Bool, true, false, List, length, Some, None, Ok, Err, refl, sym, subst}
use Rattle.clap.specs.Words.{Text as Name}
use Rattle.c62_op.specs.declared.register.Reg.{Reg}
use Rattle.c62_line.specs.declared.fault.Cause.TheVariants.{TextTooLong}
use Rattle.c62_read.specs.Block.{Serial}
use Rattle.c62_rows.specs.declared.text.RowsText.{RowsText}
use Rattle.c62_rows.specs.Rows.{text_of}
use Rattle.c62_check_loops.specs.Granted.{first_loopless}
use Rattle.c62_check_loops.specs.Told.{AreLoopsTold}
use Rattle.c62_check_loops.proofs.Done.{loops_do_the_same}
use Rattle.c62_command.specs.CommandLine.{LoopVerdicts}
use Rattle.c62_answer.specs.declared.failure.Failure.{Failure}
use Rattle.c62_answer.specs.declared.failure.Failure.TheVariants as failures
use Rattle.c62_answer.specs.declared.outcome.Outcome.{Outcome}
use Rattle.c62_answer.specs.Message.{adopt_message, fault_message, no_listing, of_text, rows_message}
use Rattle.c62_answer.specs.Parting.{HasNoParting, IsParted}
use Rattle.c62_answer.specs.Texts.{SaysProgram}
use Rattle.c62_answer.specs.LoopCheck.{IsLoopCheck, IsNoLoopCheck}
use Rattle.c62_answer.specs.LoopCheck.IsNoLoopCheck.{Endless, FaultyRows, FaultyText, NoLoop, Unparted}
use Rattle.c62_answer.specs.Run.{Gives, GivesRowsPart, GivesTextPart, IsAnswer, outcome_of}
use Rattle.c62_read.specs.Program.{most_bytes}
use Rattle.c62_op.specs.declared.set.InstructionSet.{InstructionSet}

-- no line parts the input
pub endless : (isa : InstructionSet) (trips : List (Name × ℕ)) (input : List ℕ) → HasNoParting input
    → most_bytes < length input
    → IsNoLoopCheck isa trips input (of_text (fault_message 0 TextTooLong))
endless isa trips input none long = Endless
    (record { long = long; none = λ text listing cut. absurd (none text listing cut) }) refl

pub unparted : (isa : InstructionSet) (trips : List (Name × ℕ)) (input : List ℕ) → HasNoParting input
    → length input ≤ most_bytes
    → IsNoLoopCheck isa trips input no_listing
unparted isa trips input none short = Unparted (record { short = short; none = none }) refl

module _ (isa : InstructionSet) (trips : List (Name × ℕ)) (apart : List Reg) (input text listing : List ℕ)
    (parted : IsParted input text listing) where
  -- no program was read
  pub no_text : (f : Failure) → GivesTextPart isa text (Err f) → Gives isa (LoopVerdicts trips apart) input (Err f)
  no_text (failures.Unread fault) gives = absurd gives
  no_text (failures.Unlisted fault) gives = absurd gives
  no_text (failures.Unadopted fault) gives = absurd gives
  no_text (failures.Unflown fault) gives = absurd gives
  no_text (failures.TextPart fault) gives =
      FaultyText (record {
        text = text;
        listing = listing;
        parted = parted;
        fault = fault_message fault.line fault.cause;
        refused = gives;
        told = refl;
      })
  no_text (failures.ListingPart fault) gives = absurd gives
  no_text (failures.PacketsPart fault) gives = absurd gives
  no_text (failures.RowsPart fault) gives = absurd gives
  no_text failures.NoListing gives = absurd gives
  no_text (failures.NoLoop k) gives = absurd gives
  no_text (failures.Words e) gives = absurd gives
  no_text (failures.Setting k) gives = absurd gives
  no_text (failures.Promise bad) gives = absurd gives
  no_text (failures.Excluded exclusion) gives = absurd gives
  no_text failures.Memory gives = tt
  no_text failures.Input gives = absurd gives
  no_text failures.Output gives = absurd gives

  module _ (program : List Serial) (says : SaysProgram isa text program) where
    -- a label is no loop's
    pub no_loop_named : (number : ℕ) → first_loopless program trips ≡ Some number
        → Gives isa (LoopVerdicts trips apart) input (Err (failures.NoLoop number))
    no_loop_named number first = NoLoop (record {
      text = text;
      listing = listing;
      parted = parted;
      program = program;
      says = says;
      number = number;
      first = first;
      told = refl;
    })

    -- a program was read, and no packets
    pub no_rows : first_loopless program trips ≡ None → (f : Failure) → GivesRowsPart isa listing (Err f)
        → Gives isa (LoopVerdicts trips apart) input (Err f)
    no_rows named (failures.Unread fault) gives = absurd gives
    no_rows named (failures.Unlisted fault) gives = absurd gives
    no_rows named (failures.Unadopted fault) gives = absurd gives
    no_rows named (failures.Unflown fault) gives = absurd gives
    no_rows named (failures.TextPart fault) gives = absurd gives
    no_rows named (failures.ListingPart fault) gives = absurd gives
    no_rows named (failures.PacketsPart fault) gives =
        FaultyRows (record {
          text = text;
          listing = listing;
          parted = parted;
          program = program;
          says = says;
          named = named;
          fault = adopt_message fault;
          refused = gives;
          told = refl;
        })
    no_rows named (failures.RowsPart fault) gives =
        FaultyRows (record {
          text = text;
          listing = listing;
          parted = parted;
          program = program;
          says = says;
          named = named;
          fault = rows_message fault;
          refused = gives;
          told = refl;
        })
    no_rows named failures.NoListing gives = absurd gives
    no_rows named (failures.NoLoop k) gives = absurd gives
    no_rows named (failures.Words e) gives = absurd gives
    no_rows named (failures.Setting k) gives = absurd gives
    no_rows named (failures.Promise bad) gives = absurd gives
    no_rows named (failures.Excluded exclusion) gives = absurd gives
    no_rows named failures.Memory gives = tt
    no_rows named failures.Input gives = absurd gives
    no_rows named failures.Output gives = absurd gives

-- both were read, and this is told of them
pub loops_told : (isa : InstructionSet) (trips : List (Name × ℕ)) (apart : List Reg)
    (input text listing answer : List ℕ)
    (program : List Serial) (read : RowsText) (same plain : Bool) (outcome : Outcome)
    → IsParted input text listing → SaysProgram isa text program → first_loopless program trips ≡ None
    → GivesRowsPart isa listing (Ok read)
    → AreLoopsTold trips apart program (text_of read.rows) answer same plain → outcome ≡ outcome_of same
    → IsAnswer isa (LoopVerdicts trips apart) outcome input answer
loops_told isa trips apart input text listing answer program read same plain outcome parted says named flies told ends =
    subst (λ (o : Outcome). IsAnswer isa (LoopVerdicts trips apart) o input answer) (sym ends) (ended same (record {
      text = text;
      listing = listing;
      parted = parted;
      program = program;
      says = says;
      named = named;
      packets = text_of read.rows;
      flies = flies;
      plain = plain;
      told = told;
      does = λ all. loops_do_the_same trips apart program (text_of read.rows) answer plain
          (subst (λ (b : Bool). AreLoopsTold trips apart program (text_of read.rows) answer b plain) all told);
    }))
  where
    ended : (b : Bool) → IsLoopCheck isa trips apart input b answer
        → IsAnswer isa (LoopVerdicts trips apart) (outcome_of b) input answer
    ended true is = is
    ended false is = is
