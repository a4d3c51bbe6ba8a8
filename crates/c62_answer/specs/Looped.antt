-- Packets of a text whose loops are pipelined (docs/SCHEDULING.md, "Loops of a program").
use Rattle.std.specs.Prelude.{◌≡◌, ◌≢◌, ◌⊎◌, ℕ, Bool, true, false, List, [], Some, None}
use Rattle.clap.specs.Words.{Text as Name}
use Rattle.c62_op.specs.declared.register.Reg.{Reg}
use Rattle.c62_read.specs.Block.{Serial}
use Rattle.c62_packet.specs.Packed.{Packed}
use Rattle.c62_rows.specs.declared.fault.RowsFault.{RowsFault}
use Rattle.c62_rows.specs.declared.fault.RowsFault.TheVariants.{Memory as NoPlace}
use Rattle.c62_flight.specs.Text.{IsIssuable, Text as FlightText}
use Rattle.c62_rows.specs.declared.text.Begun.{Begun}
use Rattle.c62_rows.specs.Rows.{text_of}
use Rattle.c62_rows.specs.Text.{IsTextFrom, RefusesFrom}
use Rattle.c62_check_loops.specs.Granted.{first_loopless}
use Rattle.c62_command.specs.declared.command.Drawing.{Drawing}
use Rattle.c62_command.specs.declared.command.Packing.{Packing}
use Rattle.c62_pipeline.specs.declared.written.Pipelining.{Pipelining}
use Rattle.c62_pipeline.specs.Checked.{IsWritten}
use Rattle.c62_pipeline.specs.Lined.{AreLined}
use Rattle.c62_pipeline.specs.Lines.{loop_lines}
use Rattle.c62_answer.specs.Drawing.{loop_drawing}
use Rattle.c62_answer.specs.Message.{no_loop, rows_message}
use Rattle.c62_answer.specs.Schedule.{AreScheduled}
use Rattle.c62_answer.specs.Texts.{SaysProgram, IsNoProgram}
use Rattle.c62_op.specs.declared.set.InstructionSet.{InstructionSet}

-- The text says this program, of which each of these labels is a loop's. These packets are written of it: those of its blocks, packed so, with
-- its loops pipelined where it is told that all is the same with so many trips, and accesses apart from two of these registers.
pub record IsLooped (isa : InstructionSet) (packing : Packing) (trips : List (Name × ℕ)) (apart : List Reg) (text : List ℕ) (program : List Serial) (written : Pipelining) : Type 0 where
  pub says : SaysProgram isa text program
  pub named : first_loopless program trips ≡ None
  pub own : List Packed
  pub packed : AreScheduled packing program own
  pub is : IsWritten isa trips apart program own written

-- where it is asked for, what became of each loop
abbrev pub told_lines : (verbose : Bool) → List Serial → Pipelining → List ℕ
told_lines false program written = []
told_lines true program written = loop_lines program written

-- such packets, and what is told of the loops
pub record IsLoopListing (isa : InstructionSet) (verbose : Bool) (packing : Packing) (trips : List (Name × ℕ)) (apart : List Reg) (told text answer : List ℕ) : Type 0 where
  pub program : List Serial
  pub written : Pipelining
  pub looped : IsLooped isa packing trips apart text program written
  pub lines : told ≡ told_lines verbose program written
  pub listed : answer ≡ written.text.items

-- the picture of the loops of such packets, drawn so
pub record IsLoopPicture (isa : InstructionSet) (drawing : Drawing) (packing : Packing) (trips : List (Name × ℕ)) (apart : List Reg) (text answer : List ℕ) : Type 0 where
  pub program : List Serial
  pub written : Pipelining
  pub looped : IsLooped isa packing trips apart text program written
  pub drawn : answer ≡ loop_drawing drawing text program written

-- what is read of such packets, in the lines of the program
pub record IsReadAgain (isa : InstructionSet) (program : List Serial) (written : Pipelining) (begun : Begun) : Type 0 where
  pub read : FlightText
  pub begins : IsTextFrom isa written.text.items None read begun.first
  pub named : begun.labels.entries ≡ begins.labels
  pub lined : AreLined program read (text_of begun.rows)
  pub issuable : IsIssuable (text_of begun.rows)

-- ---- refusals

-- the text says a program of which the label of these trips is no loop's, and their number is told
pub record HasLoopless (isa : InstructionSet) (trips : List (Name × ℕ)) (text message : List ℕ) : Type 0 where
  pub program : List Serial
  pub says : SaysProgram isa text program
  pub number : ℕ
  pub first : first_loopless program trips ≡ Some number
  pub told : message ≡ no_loop number

-- it says none, or trips are promised of what is no loop
abbrev pub IsUnlooped : InstructionSet → List (Name × ℕ) → List ℕ → List ℕ → Type 0
IsUnlooped isa trips text message = IsNoProgram isa text message ⊎ HasLoopless isa trips text message

-- packets are written of the text that aren't read again, and the message tells their fault
pub record IsUnread (isa : InstructionSet) (packing : Packing) (trips : List (Name × ℕ)) (apart : List Reg) (text message : List ℕ) : Type 0 where
  pub program : List Serial
  pub written : Pipelining
  pub looped : IsLooped isa packing trips apart text program written
  pub fault : RowsFault
  pub known : fault ≢ NoPlace
  pub refused : RefusesFrom isa written.text.items None fault
  pub told : message ≡ rows_message fault
