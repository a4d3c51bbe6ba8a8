-- What is told where packets in flight are held against the loops of a serial text that stands before them (docs/CHECK.md, "The
-- command").
use Rattle.std.specs.Prelude.{◌≡◌, ℕ, Bool, true, List, Some, None}
use Rattle.clap.specs.Words.{Text as Name}
use Rattle.c62_op.specs.declared.register.Reg.{Reg}
use Rattle.c62_line.specs.declared.fault.Cause.TheVariants.{TextTooLong}
use Rattle.c62_read.specs.Block.{Serial}
use Rattle.c62_flight.specs.Text.{Text}
use Rattle.c62_rows.specs.Text.{IsText}
use Rattle.c62_adopt.specs.Answer.{IsCoded, code_in, code_read}
use Rattle.c62_check_loops.specs.Granted.{first_loopless}
use Rattle.c62_check_loops.specs.Told.{AreLoopsTold}
use Rattle.c62_check_loops.specs.Laws.{AreDone, naming_of}
use Rattle.c62_answer.specs.Message.{fault_message, no_listing, no_loop, of_listing, of_text}
use Rattle.c62_answer.specs.Parting.{IsParted}
use Rattle.c62_answer.specs.Texts.{SaysProgram, IsNoFlight}
use Rattle.c62_answer.specs.Check.{HasFaultyText, IsEndless, IsUnparted}
use Rattle.c62_op.specs.declared.set.InstructionSet.{InstructionSet}

-- the text's code is one of packets, and this flies of it
pub record IsFlying (isa : InstructionSet) (text : List ℕ) (flying : Text) : Type 0 where
  pub labels : List (Name × ℕ)
  pub coded : IsCoded isa text
  pub is_text : IsText isa (code_in (code_read isa text)) flying labels

-- The input is a text and packets, and this is told of the text's loops, and whether all is the same. Where it is, each loop of the text
-- is done by the packets, from as many trips on as are sure of it, but for what the answer names, if it is so of any loop, and no block is
-- left that belongs to none.
pub record IsLoopCheck (isa : InstructionSet) (trips : List (Name × ℕ)) (apart : List Reg) (input : List ℕ) (same : Bool) (answer : List ℕ) : Type 0 where
  pub text : List ℕ
  pub listing : List ℕ
  pub parted : IsParted input text listing
  pub program : List Serial
  pub says : SaysProgram isa text program
  pub named : first_loopless program trips ≡ None
  pub packets : Text
  pub flies : IsFlying isa listing packets
  pub plain : Bool
  pub told : AreLoopsTold trips apart program packets answer same plain
  pub does : same ≡ true → AreDone trips apart program packets (naming_of plain answer)

-- ---- faults

-- the text says a program of which the label of these trips is no loop's, and their number is told
pub record HasNoLoop (isa : InstructionSet) (trips : List (Name × ℕ)) (input message : List ℕ) : Type 0 where
  pub text : List ℕ
  pub listing : List ℕ
  pub parted : IsParted input text listing
  pub program : List Serial
  pub says : SaysProgram isa text program
  pub number : ℕ
  pub first : first_loopless program trips ≡ Some number
  pub told : message ≡ no_loop number

-- all trips are of loops, but what stands behind the text doesn't fly, and its fault is told
pub record HasFaultyRows (isa : InstructionSet) (trips : List (Name × ℕ)) (input message : List ℕ) : Type 0 where
  pub text : List ℕ
  pub listing : List ℕ
  pub parted : IsParted input text listing
  pub program : List Serial
  pub says : SaysProgram isa text program
  pub named : first_loopless program trips ≡ None
  pub fault : List ℕ
  pub refused : IsNoFlight isa None listing fault
  pub told : message ≡ of_listing fault

-- nothing can be checked, and the message tells why
pub data IsNoLoopCheck (isa : InstructionSet) (trips : List (Name × ℕ)) (input message : List ℕ) : Type 0 where
  Endless : IsEndless input → message ≡ of_text (fault_message 0 TextTooLong) → IsNoLoopCheck isa trips input message
  Unparted : IsUnparted input → message ≡ no_listing → IsNoLoopCheck isa trips input message
  FaultyText : HasFaultyText isa input message → IsNoLoopCheck isa trips input message
  NoLoop : HasNoLoop isa trips input message → IsNoLoopCheck isa trips input message
  FaultyRows : HasFaultyRows isa trips input message → IsNoLoopCheck isa trips input message
