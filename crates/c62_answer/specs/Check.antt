-- What is told where packets, in a listing or as they are written, are held against a serial text that stands before them
-- (docs/CHECK.md). The name `listing` is what stands behind the line, in whichever form.
use Rattle.std.specs.Prelude.{◌≡◌, ℕ, ◌<◌, ◌≤◌, Bool, true, List, length}
use Rattle.c62_line.specs.declared.fault.Cause.TheVariants.{TextTooLong}
use Rattle.c62_read.specs.Block.{Serial}
use Rattle.c62_read.specs.Program.{most_bytes}
use Rattle.c62_packet.specs.Packed.{Packed}
use Rattle.c62_command.specs.declared.command.Form.{Form}
use Rattle.c62_check.specs.Checked.{IsChecked}
use Rattle.c62_check.specs.Serial.{AreSerialPackets}
use Rattle.c62_answer.specs.Message.{fault_message, no_listing, of_listing, of_text}
use Rattle.c62_answer.specs.Parting.{IsCut, IsParted, HasNoParting}
use Rattle.c62_answer.specs.Texts.{SaysProgram, SaysPackets, SaysNoPackets, IsNoProgram}
use Rattle.c62_op.specs.declared.set.InstructionSet.{InstructionSet}

-- The input is a text and packets of this form, and this is told of them, and whether every block is the same. Where it is, the
-- packets run as the program of the text, from every sound machine and under every limit.
pub record IsCheck (isa : InstructionSet) (form : Form) (input : List ℕ) (same : Bool) (answer : List ℕ) : Type 0 where
  pub text : List ℕ
  pub listing : List ℕ
  pub parted : IsParted input text listing
  pub program : List Serial
  pub says : SaysProgram isa text program
  pub packets : List Packed
  pub read : SaysPackets isa form listing packets
  pub checked : IsChecked program packets answer same
  pub serial : same ≡ true → AreSerialPackets program packets

-- ---- faults

-- there are more bytes than a text may have, and so there are before each line `---`
pub record IsEndless (input : List ℕ) : Type 0 where
  pub long : most_bytes < length input
  pub none : (text listing : List ℕ) → IsCut input text listing → most_bytes < length text

-- there are no more bytes than a text may have, and no line `---`
pub record IsUnparted (input : List ℕ) : Type 0 where
  pub short : length input ≤ most_bytes
  pub none : HasNoParting input

-- the text says no program, and its fault is told
pub record HasFaultyText (isa : InstructionSet) (input message : List ℕ) : Type 0 where
  pub text : List ℕ
  pub listing : List ℕ
  pub parted : IsParted input text listing
  pub fault : List ℕ
  pub refused : IsNoProgram isa text fault
  pub told : message ≡ of_text fault

-- the text says a program, but what stands behind it says no packets, and its fault is told
pub record HasFaultyListing (isa : InstructionSet) (form : Form) (input message : List ℕ) : Type 0 where
  pub text : List ℕ
  pub listing : List ℕ
  pub parted : IsParted input text listing
  pub program : List Serial
  pub says : SaysProgram isa text program
  pub fault : List ℕ
  pub refused : SaysNoPackets isa form listing fault
  pub told : message ≡ of_listing fault

-- nothing can be checked, and the message tells why
pub data IsNoCheck (isa : InstructionSet) (form : Form) (input message : List ℕ) : Type 0 where
  Endless : IsEndless input → message ≡ of_text (fault_message 0 TextTooLong) → IsNoCheck isa form input message
  Unparted : IsUnparted input → message ≡ no_listing → IsNoCheck isa form input message
  FaultyText : HasFaultyText isa input message → IsNoCheck isa form input message
  FaultyListing : HasFaultyListing isa form input message → IsNoCheck isa form input message
