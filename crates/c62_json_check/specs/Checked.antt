-- The document that is told of a program and packets (docs/JSON.md, "check"; docs/CHECK.md).
use Rattle.std.specs.Prelude.{◌≡◌, ℕ, Bool, List, All, Option, IsTrue, codes}
use Rattle.c62_json.specs.Document.{document}
use Rattle.c62_read.specs.Block.{Serial, is_block, labels_in}
use Rattle.c62_packet.specs.Packed.{Packed, IsPacketBlock}
use Rattle.c62_packet.specs.Packets.{labels_of}
use Rattle.c62_check.specs.declared.verdict.Verdict.{Verdict as Answer}
use Rattle.c62_check.specs.Judged.{AreJudged, all_same}
use Rattle.c62_check.specs.Checked.{IsChecked}
use Rattle.c62_check.specs.Lines.{told_lines}
use Rattle.c62_json_check.specs.Members.{members}

-- This text is the document of a program and packets, and every block is the same or not: it has all blocks that differ in their
-- labels, or that only one of the two has, and what is found of each block that both have.
pub record IsCheckDocument (program : List Serial) (packets : List Packed) (text : List ℕ) (same : Bool) : Type 0 where
  pub others : List ℕ
  pub verdicts : List Answer
  pub judged : AreJudged program packets others verdicts
  pub told : text ≡ document (codes "check") (members (labels_of packets) (labels_in program) others verdicts)
  pub all : same ≡ all_same others verdicts

-- ---- laws

-- A text and a document tell the same facts: of the same blocks that they differ, with their labels, and of the others the same verdicts.
pub record TellOne (text told : List ℕ) : Type 0 where
  pub listed : List (Option (List ℕ))
  pub labels : List (Option (List ℕ))
  pub others : List ℕ
  pub verdicts : List Answer
  pub lines : text ≡ told_lines listed labels others verdicts
  pub members_told : told ≡ document (codes "check") (members listed labels others verdicts)

-- so do what `check` prints and its document, and both say alike whether all is the same
abbrev pub TellsTheSame : List Serial → List Packed → Type 0
TellsTheSame program packets =
    All (λ block. IsTrue (is_block block.insns)) program → All IsPacketBlock packets → (text told : List ℕ) (same also : Bool)
    → IsChecked program packets text same → IsCheckDocument program packets told also → (same ≡ also) × TellOne text told
