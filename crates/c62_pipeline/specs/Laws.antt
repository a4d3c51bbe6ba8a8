-- What follows of packets that are written with pipelined loops (docs/SCHEDULING.md, "Loops of a program").
use Rattle.std.specs.Prelude.{◌⊎◌, ℕ, List, None}
use Rattle.clap.specs.Words.{Text as Name}
use Rattle.c62_op.specs.declared.register.Reg.{Reg}
use Rattle.c62_read.specs.Block.{Serial}
use Rattle.c62_packet.specs.Packed.{Packed}
use Rattle.c62_listing.specs.Listing.{listing}
use Rattle.c62_flight.specs.Text.{Text}
use Rattle.c62_rows.specs.Text.{IsText}
use Rattle.c62_check_loops.specs.Laws.{AreDone}
use Rattle.c62_pipeline.specs.declared.written.Pipelining.{Pipelining}
use Rattle.c62_pipeline.specs.Checked.{IsOwn, IsWritten}
use Rattle.c62_op.specs.declared.set.InstructionSet.{InstructionSet}

-- the text is read as packets, by which each loop and each other block of the program is done
pub record DoesAll (isa : InstructionSet) (trips : List (Name × ℕ)) (apart : List Reg) (blocks : List Serial) (text : List ℕ) : Type 0 where
  pub packets : Text
  pub labels : List (Name × ℕ)
  pub read : IsText isa text packets labels
  pub done : AreDone trips apart blocks packets None

-- where it isn't each block's own packets, what is written does all that the program does
abbrev pub WhatIsWrittenIsDone : InstructionSet → List (Name × ℕ) → List Reg → List Serial → List Packed → Pipelining → Type 0
WhatIsWrittenIsDone isa trips apart blocks own written =
    IsWritten isa trips apart blocks own written → DoesAll isa trips apart blocks written.text.items ⊎ IsOwn (listing own) written
