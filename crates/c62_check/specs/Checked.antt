-- What is told of a program and packets (docs/CHECK.md).
use Rattle.std.specs.Prelude.{◌≡◌, ◌↔◌, ℕ, Bool, List, All, slice_get, Some, IsTrue}
use Rattle.c62_read.specs.Block.{Serial, is_block, labels_in}
use Rattle.c62_packet.specs.declared.placed.Placed.{Placed}
use Rattle.c62_packet.specs.Packed.{Packed, IsPacketBlock}
use Rattle.c62_packet.specs.Packets.{labels_of}
use Rattle.c62_check.specs.declared.verdict.Verdict.{Verdict as Answer}
use Rattle.c62_check.specs.Schedule.{IsNumbering}
use Rattle.c62_check.specs.Judged.{AreJudged, all_same}
use Rattle.c62_check.specs.Lines.{told_lines}

-- These lines are told of a program and packets, and every block is the same or not: the lines of all blocks that differ in
-- their labels, or that only one of the two has, and of what is found of each block that both have.
pub record IsChecked (program : List Serial) (packets : List Packed) (text : List ℕ) (same : Bool) : Type 0 where
  pub others : List ℕ
  pub verdicts : List Answer
  pub judged : AreJudged program packets others verdicts
  pub told : text ≡ told_lines (labels_of packets) (labels_in program) others verdicts
  pub all : same ≡ all_same others verdicts

-- ---- laws

-- blocks and labels are the same, and of each block some numbering keeps all bounds
pub record HaveNumberings (program : List Serial) (packets : List Packed) : Type 0 where
  pub labels : labels_of packets ≡ labels_in program
  pub numbered : (number : ℕ) (block : Serial) (packed : Packed) → slice_get program number ≡ Some block → slice_get packets number ≡ Some packed
      → (numbered : List Placed) × IsNumbering block.insns packed.placed numbered

-- exactly so all is the same
abbrev pub SaysSame : List Serial → List Packed → List ℕ → Bool → Type 0
SaysSame program packets text same =
    All (λ block. IsTrue (is_block block.insns)) program → All IsPacketBlock packets → IsChecked program packets text same
    → IsTrue same ↔ HaveNumberings program packets

-- of a program and packets one text is told, and that all is the same or not
abbrev pub HasOneText : List Serial → List Packed → Type 0
HasOneText program packets =
    All (λ block. IsTrue (is_block block.insns)) program → All IsPacketBlock packets → (text other : List ℕ) (same also : Bool)
    → IsChecked program packets text same → IsChecked program packets other also → (text ≡ other) × (same ≡ also)
