-- What is written with pipelined loops runs as its whole program (docs/SCHEDULING.md, "Loops of a program").
use Rattle.std.specs.Prelude.{◌⊎◌, ℕ, All, List, IsTrue}
use Rattle.clap.specs.Words.{Text as Name}
use Rattle.c62_op.specs.declared.register.Reg.{Reg}
use Rattle.c62_op.specs.declared.set.InstructionSet.{InstructionSet}
use Rattle.c62_read.specs.Block.{Serial, IsProgram, is_block}
use Rattle.c62_packet.specs.Packed.{Packed}
use Rattle.c62_listing.specs.Listing.{listing}
use Rattle.c62_flight.specs.Text.{Text}
use Rattle.c62_rows.specs.Text.{IsText}
use Rattle.c62_pipeline.specs.declared.written.Pipelining.{Pipelining}
use Rattle.c62_pipeline.specs.Checked.{IsOwn, IsWritten}
use Rattle.c62_check_whole.specs.Whole.{AreSerial}

-- the text is read as packets that run as the program
pub record IsSerial (isa : InstructionSet) (trips : List (Name × ℕ)) (apart : List Reg) (blocks : List Serial) (text : List ℕ) : Type 0 where
  pub packets : Text
  pub labels : List (Name × ℕ)
  pub read : IsText isa text packets labels
  pub serial : AreSerial trips apart blocks packets

-- where it isn't each block's own packets, what is written is such a text
abbrev pub WrittenIsSerial : InstructionSet → List (Name × ℕ) → List Reg → List Serial → List Packed → Pipelining → Type 0
WrittenIsSerial isa trips apart blocks own written = IsProgram blocks → All (λ block. IsTrue (is_block block.insns)) blocks
    → IsWritten isa trips apart blocks own written → IsSerial isa trips apart blocks written.text.items ⊎ IsOwn (listing own) written
