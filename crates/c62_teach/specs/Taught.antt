-- What `--explain` tells behind the line that refuses a text (docs/FAULTS.md, "What `--explain` prints").
use Rattle.std.specs.Prelude.{◌≡◌, ℕ, List, IfErr}
use Rattle.c62_line.specs.declared.fault.ReadFault.{ReadFault}
use Rattle.c62_read.specs.Program.{Refusal, program_in}
use Rattle.c62_lint.specs.Faults.{refusal_of}
use Rattle.c62_explain.specs.Picture.{Explains}
use Rattle.c62_command.specs.CommandLine.{Ask, Listing, Picture, SerialReport, PacketReport, LoopListing, LoopPicture, LoopReport, Document}
use Rattle.c62_op.specs.declared.set.InstructionSet.{InstructionSet}

-- this explains the fault that a serial text is refused for
pub record ExplainsRefusal (isa : InstructionSet) (name text : List ℕ) (refusal : Refusal) (more : List ℕ) : Type 0 where
  pub fault : ReadFault
  pub same : refusal_of fault ≡ refusal
  pub explains : Explains isa name text fault more

abbrev pub TeachesSerial : InstructionSet → (name text more : List ℕ) → Type 0
TeachesSerial isa name text more = IfErr (program_in isa text) (λ refusal. ExplainsRefusal isa name text refusal more)

-- What is told of a text that is refused for what is asked of it. Of other texts than serial ones that is left open.
abbrev pub Teaches : InstructionSet → Ask → (name listing text more : List ℕ) → Type 0
Teaches isa (Listing packing) name listing text more = TeachesSerial isa name text more
Teaches isa (Picture showing) name listing text more = TeachesSerial isa name text more
Teaches isa (SerialReport blocks settings apart) name listing text more = TeachesSerial isa name text more
Teaches isa (PacketReport packing blocks settings) name listing text more = TeachesSerial isa name text more
Teaches isa (LoopListing verbose packing trips apart) name listing text more = TeachesSerial isa name text more
Teaches isa (LoopPicture drawing packing trips apart) name listing text more = TeachesSerial isa name text more
Teaches isa (LoopReport verbose packing trips apart course settings) name listing text more = TeachesSerial isa name text more
Teaches isa (Document ask) name listing text more = Teaches isa ask name listing text more
Teaches isa ask name listing text more = Unit {0}
