-- The packets that a text says as they stand, and what is told where it says none.
use Rattle.std.proofs.Common.{ℕ, false, List, Err, subst}
use Rattle.c62_packet.specs.Packed.{Packed}
use Rattle.c62_adopt.specs.Answer.{IsAdopted}
use Rattle.c62_adopt.specs.Laws.{DrainsNothing}
use Rattle.c62_command.specs.declared.setting.Setting.{Setting}
use Rattle.c62_command.specs.declared.command.Course.{Course}
use Rattle.c62_command.specs.declared.command.Form.{Form}
use Rattle.c62_command.specs.declared.command.Form.TheVariants.{Listed, Written}
use Rattle.c62_command.specs.declared.command.Showing.{Showing}
use Rattle.c62_command.specs.CommandLine.{Ask, ListingPicture, PacketsPicture, StandingReport}
use Rattle.c62_answer.specs.declared.failure.Failure.{Failure}
use Rattle.c62_answer.specs.declared.failure.Failure.TheVariants as failures
use Rattle.c62_answer.specs.Message.{adopt_message, list_message}
use Rattle.c62_answer.specs.Texts.{SaysNoPackets}
use Rattle.c62_answer.specs.Run.{Gives, GivesPackets, IsRefusedText}
use Rattle.c62_op.specs.declared.set.InstructionSet.{InstructionSet}

-- a text that is adopted as it stands lacks no cycle
pub adopted_stands : (isa : InstructionSet) (text : List ℕ) (packets : List Packed) (added : ℕ)
    → DrainsNothing isa text packets
    → IsAdopted isa false text packets added
    → IsAdopted isa false text packets 0
adopted_stands isa text packets added lacks is = subst (IsAdopted isa false text packets) (lacks added is).0 is

-- where it says no packets, that is the answer
module _ (isa : InstructionSet) (form : Form) (ask : Ask) (text : List ℕ)
    (same : (message : List ℕ) → SaysNoPackets isa form text message
    → IsRefusedText isa ask text message) where
  none_given : (f : Failure) → GivesPackets isa form text (Err f) → Gives isa ask text (Err f)
  none_given (failures.Unread fault) gives = absurd gives
  none_given (failures.Unlisted fault) gives = same (list_message fault) gives
  none_given (failures.Unadopted fault) gives = same (adopt_message fault) gives
  none_given (failures.Unflown fault) gives = absurd gives
  none_given (failures.TextPart fault) gives = absurd gives
  none_given (failures.ListingPart fault) gives = absurd gives
  none_given (failures.PacketsPart fault) gives = absurd gives
  none_given failures.NoListing gives = absurd gives
  none_given (failures.RowsPart fault) gives = absurd gives
  none_given (failures.NoLoop k) gives = absurd gives
  none_given (failures.Promise bad) gives = absurd gives
  none_given (failures.Excluded exclusion) gives = absurd gives
  none_given (failures.Words e) gives = absurd gives
  none_given (failures.Setting k) gives = absurd gives
  none_given failures.Memory gives = tt
  none_given failures.Input gives = absurd gives
  none_given failures.Output gives = absurd gives

pub no_report : (isa : InstructionSet) (form : Form) (course : Course) (settings : List Setting) (text : List ℕ)
    (f : Failure)
    → GivesPackets isa form text (Err f)
    → Gives isa (StandingReport form course settings) text (Err f)
no_report isa form course settings text f gives = none_given isa form (StandingReport form course settings) text
    (λ message is. is) f gives

pub no_listing_picture : (isa : InstructionSet) (showing : Showing) (text : List ℕ) (f : Failure)
    → GivesPackets isa Listed text (Err f)
    → Gives isa (ListingPicture showing) text (Err f)
no_listing_picture isa showing text f gives =
    none_given isa Listed (ListingPicture showing) text (λ message is. is) f gives

pub no_packets_picture : (isa : InstructionSet) (showing : Showing) (text : List ℕ) (f : Failure)
    → GivesPackets isa Written text (Err f)
    → Gives isa (PacketsPicture showing) text (Err f)
no_packets_picture isa showing text f gives =
    none_given isa Written (PacketsPicture showing) text (λ message is. is) f gives
