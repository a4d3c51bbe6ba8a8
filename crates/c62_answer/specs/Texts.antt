-- What texts say, and what is told of those that say nothing.
use Rattle.std.specs.Prelude.{◌≡◌, ◌≢◌, ◌⊎◌, ℕ, Bool, false, List, Option, map, Ok, IsErrAnd}
use Rattle.c62_read.specs.Block.{Serial}
use Rattle.c62_read.specs.Program.{program_in, block_parts}
use Rattle.c62_packet.specs.Packed.{Packed}
use Rattle.c62_listing_reader.specs.Faults.{IsRead}
use Rattle.c62_listing_reader.specs.declared.fault.ListFault.{ListFault}
use Rattle.c62_listing_reader.specs.declared.fault.ListFault.TheVariants.{Memory as NoStore}
use Rattle.c62_listing_reader.specs.Reading.{Refuses}
use Rattle.c62_adopt.specs.declared.fault.AdoptFault.{AdoptFault}
use Rattle.c62_adopt.specs.declared.fault.AdoptFault.TheVariants.{Memory as NoRoom}
use Rattle.c62_adopt.specs.Answer.{IsAdopted, IsCoded, LacksCode, Refuses as RefusesPackets, code_in, code_read}
use Rattle.c62_rows.specs.declared.fault.RowsFault.{RowsFault}
use Rattle.c62_rows.specs.declared.fault.RowsFault.TheVariants.{From as NoStart, Memory as NoPlace}
use Rattle.c62_rows.specs.Text.{RefusesFrom}
use Rattle.c62_reach.specs.declared.fault.ReachFault.TheVariants.{From as Nowhere}
use Rattle.c62_reach.specs.Taken.{Lacks}
use Rattle.c62_command.specs.declared.command.Form.{Form}
use Rattle.c62_command.specs.declared.command.Form.TheVariants.{Listed, Written}
use Rattle.c62_answer.specs.Message.{adopt_message, fault_message, list_message, rows_message}
use Rattle.c62_op.specs.declared.set.InstructionSet.{InstructionSet}

-- the text says a program
abbrev pub SaysProgram : InstructionSet → List ℕ → List Serial → Type 0
SaysProgram isa text program = program_in isa text ≡ Ok (map block_parts program)

-- the text says no program, and the message tells its fault
abbrev pub IsNoProgram : InstructionSet → List ℕ → List ℕ → Type 0
IsNoProgram isa text message = IsErrAnd (program_in isa text) (λ fault. message ≡ fault_message fault.0 fault.1)

-- the text is no listing, and the message tells its first fault
pub record IsNoListing (isa : InstructionSet) (text message : List ℕ) : Type 0 where
  pub fault : ListFault
  pub known : fault ≢ NoStore
  pub refused : Refuses isa text fault
  pub told : message ≡ list_message fault

-- the text makes no packets, drained or as it stands, and the message tells its first fault
pub record IsNoPackets (isa : InstructionSet) (drain : Bool) (text message : List ℕ) : Type 0 where
  pub fault : AdoptFault
  pub known : fault ≢ NoRoom
  pub refused : RefusesPackets isa drain text fault
  pub told : message ≡ adopt_message fault

-- The text, of this form, says these packets as they stand. Their lines are those of the text.
abbrev pub SaysPackets : InstructionSet → Form → List ℕ → List Packed → Type 0
SaysPackets isa Listed text packets = IsRead isa text packets
SaysPackets isa Written text packets = IsAdopted isa false text packets 0

-- it says none, and the message tells its first fault
abbrev pub SaysNoPackets : InstructionSet → Form → List ℕ → List ℕ → Type 0
SaysNoPackets isa Listed text message = IsNoListing isa text message
SaysNoPackets isa Written text message = IsNoPackets isa false text message

-- the text has no code, and the message tells the line that keeps it from having some
pub record IsUncoded (isa : InstructionSet) (text message : List ℕ) : Type 0 where
  pub fault : AdoptFault
  pub known : fault ≢ NoRoom
  pub lacks : LacksCode isa text fault
  pub told : message ≡ adopt_message fault

-- the text's code makes no rows, or none has the label with which a run is to begin, and the message tells the first fault
pub record IsNoRows (isa : InstructionSet) (from : Option (List ℕ)) (text message : List ℕ) : Type 0 where
  pub coded : IsCoded isa text
  pub fault : RowsFault
  pub known : fault ≢ NoPlace
  pub refused : RefusesFrom isa (code_in (code_read isa text)) from fault
  pub told : message ≡ rows_message fault

abbrev pub IsNoFlight : InstructionSet → Option (List ℕ) → List ℕ → List ℕ → Type 0
IsNoFlight isa from text message = IsUncoded isa text message ⊎ IsNoRows isa from text message

-- no line of the text has the label from which on it is to be taken, and the message tells that
pub record IsUnreached (isa : InstructionSet) (name text message : List ℕ) : Type 0 where
  pub lacks : Lacks isa name text Nowhere
  pub told : message ≡ rows_message NoStart
