-- Pictures of packets as they stand (docs/SHOW.md, "Packets as they stand").
use Rattle.std.specs.Prelude.{◌≡◌, ℕ, false, List}
use Rattle.std.specs.List.{AllZip}
use Rattle.c62_packet.specs.Packed.{Packed}
use Rattle.c62_listing_reader.specs.Faults.{IsRead}
use Rattle.c62_adopt.specs.Answer.{IsAdopted}
use Rattle.c62_show.specs.declared.shown.Shown.{Shown}
use Rattle.c62_standing.specs.declared.standing.Details.{Details}
use Rattle.c62_standing.specs.Standing.{IsStanding}
use Rattle.c62_command.specs.declared.command.Showing.{Showing}
use Rattle.c62_answer.specs.Drawing.{drawing}
use Rattle.c62_op.specs.declared.set.InstructionSet.{InstructionSet}

-- what is told of packets beside their picture
abbrev pub details_of : Showing → Details
details_of showing = record { why = showing.why; registers = showing.registers }

-- This is the picture of these packets as they stand in a text. What is told of each block is told of a serial block of which it is a schedule;
-- so what its head tells of shorter schedules is true.
pub record IsDrawn (showing : Showing) (packets : List Packed) (text answer : List ℕ) : Type 0 where
  pub shown : List Shown
  pub standing : AllZip (IsStanding (details_of showing)) packets shown
  pub drawn : answer ≡ drawing showing text shown

-- the text is a listing, and this the picture of its packets
pub record IsShownListing (isa : InstructionSet) (showing : Showing) (text answer : List ℕ) : Type 0 where
  pub packets : List Packed
  pub read : IsRead isa text packets
  pub drawn : IsDrawn showing packets text answer

-- the text is adopted as packets as it stands, and this is their picture
pub record IsShownPackets (isa : InstructionSet) (showing : Showing) (text answer : List ℕ) : Type 0 where
  pub packets : List Packed
  pub adopted : IsAdopted isa false text packets 0
  pub drawn : IsDrawn showing packets text answer
