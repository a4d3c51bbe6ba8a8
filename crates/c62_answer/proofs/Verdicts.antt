-- What is told of a check, from what each step gave.
use Rattle.std.proofs.Common.{ℕ, ◌<◌, ◌≤◌, Bool, true, false, List, length, Err, refl}
use Rattle.c62_line.specs.declared.fault.Cause.TheVariants.{TextTooLong}
use Rattle.c62_read.specs.Block.{Serial}
use Rattle.c62_command.specs.declared.command.Form.{Form}
use Rattle.c62_answer.specs.declared.failure.Failure.{Failure}
use Rattle.c62_answer.specs.declared.failure.Failure.TheVariants as failures
use Rattle.c62_answer.specs.Message.{adopt_message, fault_message, list_message, no_listing, of_text}
use Rattle.c62_answer.specs.Parting.{HasNoParting, IsParted}
use Rattle.c62_answer.specs.Texts.{SaysProgram}
use Rattle.c62_answer.specs.Check.{IsCheck, IsNoCheck}
use Rattle.c62_answer.specs.Check.IsNoCheck.{Endless, FaultyListing, FaultyText, Unparted}
use Rattle.c62_answer.specs.Run.{Gives, GivesPacketsPart, GivesTextPart, IsAnswer, outcome_of}
use Rattle.c62_command.specs.CommandLine.{Verdicts}
use Rattle.c62_read.specs.Program.{most_bytes}
use Rattle.c62_op.specs.declared.set.InstructionSet.{InstructionSet}

-- no line parts the input
pub endless : (isa : InstructionSet) (form : Form) (input : List ℕ) → HasNoParting input → most_bytes < length input
    → IsNoCheck isa form input (of_text (fault_message 0 TextTooLong))
endless isa form input none long = Endless
    (record { long = long; none = λ text listing cut. absurd (none text listing cut) }) refl

pub unparted : (isa : InstructionSet) (form : Form) (input : List ℕ) → HasNoParting input → length input ≤ most_bytes
    → IsNoCheck isa form input no_listing
unparted isa form input none short = Unparted (record { short = short; none = none }) refl

module _ (isa : InstructionSet) (form : Form) (input text listing : List ℕ) (parted : IsParted input text listing) where
  -- no program was read
  pub no_text : (f : Failure) → GivesTextPart isa text (Err f) → Gives isa (Verdicts form) input (Err f)
  no_text (failures.Unread fault) gives = absurd gives
  no_text (failures.Unlisted fault) gives = absurd gives
  no_text (failures.Unadopted fault) gives = absurd gives
  no_text (failures.Unflown fault) gives = absurd gives
  no_text (failures.TextPart fault) gives =
      FaultyText (record {
        text = text;
        listing = listing;
        parted = parted;
        fault = fault_message fault.line fault.cause;
        refused = gives;
        told = refl;
      })
  no_text (failures.ListingPart fault) gives = absurd gives
  no_text (failures.PacketsPart fault) gives = absurd gives
  no_text failures.NoListing gives = absurd gives
  no_text (failures.RowsPart fault) gives = absurd gives
  no_text (failures.NoLoop k) gives = absurd gives
  no_text (failures.Promise bad) gives = absurd gives
  no_text (failures.Excluded exclusion) gives = absurd gives
  no_text (failures.Words e) gives = absurd gives
  no_text (failures.Setting k) gives = absurd gives
  no_text failures.Memory gives = tt
  no_text failures.Input gives = absurd gives
  no_text failures.Output gives = absurd gives

  -- a program was read, and no packets
  pub no_packets_part : (program : List Serial) → SaysProgram isa text program → (f : Failure)
      → GivesPacketsPart isa form listing (Err f) → Gives isa (Verdicts form) input (Err f)
  no_packets_part program says (failures.Unread fault) gives = absurd gives
  no_packets_part program says (failures.Unlisted fault) gives = absurd gives
  no_packets_part program says (failures.Unadopted fault) gives = absurd gives
  no_packets_part program says (failures.Unflown fault) gives = absurd gives
  no_packets_part program says (failures.TextPart fault) gives = absurd gives
  no_packets_part program says (failures.ListingPart fault) gives =
      FaultyListing (record {
        text = text;
        listing = listing;
        parted = parted;
        program = program;
        says = says;
        fault = list_message fault;
        refused = gives;
        told = refl;
      })
  no_packets_part program says (failures.PacketsPart fault) gives =
      FaultyListing (record {
        text = text;
        listing = listing;
        parted = parted;
        program = program;
        says = says;
        fault = adopt_message fault;
        refused = gives;
        told = refl;
      })
  no_packets_part program says failures.NoListing gives = absurd gives
  no_packets_part program says (failures.RowsPart fault) gives = absurd gives
  no_packets_part program says (failures.NoLoop k) gives = absurd gives
  no_packets_part program says (failures.Promise bad) gives = absurd gives
  no_packets_part program says (failures.Excluded exclusion) gives = absurd gives
  no_packets_part program says (failures.Words e) gives = absurd gives
  no_packets_part program says (failures.Setting k) gives = absurd gives
  no_packets_part program says failures.Memory gives = tt
  no_packets_part program says failures.Input gives = absurd gives
  no_packets_part program says failures.Output gives = absurd gives

-- both were read, and this is told of them
pub told : (isa : InstructionSet) (form : Form) (input answer : List ℕ) (same : Bool)
    → IsCheck isa form input same answer
    → IsAnswer isa (Verdicts form) (outcome_of same) input answer
told isa form input answer true is = is
told isa form input answer false is = is
