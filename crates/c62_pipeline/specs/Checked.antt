-- Texts of packets that do what a program does (docs/SCHEDULING.md, "Loops of a program"; docs/CHECK.md, "The command").
use Rattle.std.specs.Prelude.{◌≡◌, ◌⊎◌, ℕ, true, List, All, None}
use Rattle.clap.specs.Words.{Text as Name}
use Rattle.c62_op.specs.declared.register.Reg.{Reg}
use Rattle.c62_read.specs.Block.{Serial}
use Rattle.c62_packet.specs.Packed.{Packed}
use Rattle.c62_listing.specs.Listing.{listing}
use Rattle.c62_flight.specs.Text.{Text}
use Rattle.c62_rows.specs.Text.{IsText}
use Rattle.c62_check_loops.specs.Told.{AreLoopsTold}
use Rattle.c62_pipeline.specs.Chosen.{IsChosen}
use Rattle.c62_pipeline.specs.declared.written.Pipelining.{Pipelining}
use Rattle.c62_op.specs.declared.set.InstructionSet.{InstructionSet}

-- The text is read as packets, and what is told of the program's blocks and these is that all is the same, with no register named, where so
-- many trips are promised of the loops of these labels, and that accesses from two of these registers are apart.
pub record IsChecked (isa : InstructionSet) (trips : List (Name × ℕ)) (apart : List Reg) (blocks : List Serial) (text : List ℕ) : Type 0 where
  pub packets : Text
  pub labels : List (Name × ℕ)
  pub read : IsText isa text packets labels
  pub lines : List ℕ
  pub told : AreLoopsTold trips apart blocks packets lines true true

-- each block has its own packets, of which this is the listing, and each loop was left or given up
pub record IsOwn (own : List ℕ) (written : Pipelining) : Type 0 where
  pub text : written.text.items ≡ own
  pub none : All (λ choice. choice.made ≡ None) written.loops.items

-- What is written are packets that do what the program does, or each block's own, of which this is the listing; and what is told of each of
-- its loops is true.
pub record IsWrittenOf (isa : InstructionSet) (trips : List (Name × ℕ)) (apart : List Reg) (blocks : List Serial) (own : List ℕ) (written : Pipelining) : Type 0 where
  pub does : IsChecked isa trips apart blocks written.text.items ⊎ IsOwn own written
  pub chosen : All (IsChosen trips apart blocks) written.loops.items

abbrev pub IsWritten : InstructionSet → List (Name × ℕ) → List Reg → List Serial → List Packed → Pipelining → Type 0
IsWritten isa trips apart blocks own written = IsWrittenOf isa trips apart blocks (listing own) written
