-- What is found of the blocks of a program and packets (docs/CHECK.md).
use Rattle.std.specs.Prelude.{◌≡◌, ◌≢◌, ◌⊎◌, ℕ, min, Bool, false, List, [], ◌∷◌, All, Contains, length, slice_get, Some}
use Rattle.std.specs.List.{list_all}
use Rattle.std.specs.List.Sorted.{IsStrictlyIncreasing}
use Rattle.c62_read.specs.Block.{Serial, labels_in}
use Rattle.c62_packet.specs.Packed.{Packed}
use Rattle.c62_packet.specs.Packets.{labels_of}
use Rattle.c62_check.specs.declared.verdict.Verdict.{Verdict as Answer}
use Rattle.c62_check.specs.Verdict.{IsVerdict, is_same}

-- the block of this number has the same label in both, or neither has it
abbrev pub IsAlike : List Serial → List Packed → ℕ → Type 0
IsAlike program packets number = slice_get (labels_of packets) number ≡ slice_get (labels_in program) number

-- it differs in its label, or only one of the two has it
abbrev pub IsOther : List Serial → List Packed → ℕ → Type 0
IsOther program packets number = slice_get (labels_of packets) number ≢ slice_get (labels_in program) number

-- the numbers of all blocks that differ so, rising
pub record AreOthers (program : List Serial) (packets : List Packed) (others : List ℕ) : Type 0 where
  pub rising : IsStrictlyIncreasing others
  pub differ : All (IsOther program packets) others
  pub all : (number : ℕ) → Contains others number ⊎ IsAlike program packets number

-- of each block of a program that stands beside packets, whatever their labels
pub record AreVerdicts (program : List Serial) (packets : List Packed) (verdicts : List Answer) : Type 0 where
  pub count : length verdicts ≡ min (length program) (length packets)
  pub each : (number : ℕ) (block : Serial) (packed : Packed) (verdict : Answer) → slice_get program number ≡ Some block → slice_get packets number ≡ Some packed
      → slice_get verdicts number ≡ Some verdict → IsVerdict block packed verdict

-- what is found of a program and packets
pub record AreJudged (program : List Serial) (packets : List Packed) (others : List ℕ) (verdicts : List Answer) : Type 0 where
  pub are_others : AreOthers program packets others
  pub are_verdicts : AreVerdicts program packets verdicts

-- whether every block is the same: no block differs, and the packets of each are a schedule of it
abbrev pub all_same : (others : List ℕ) → List Answer → Bool
all_same [] verdicts = list_all is_same verdicts
all_same (number ∷ others) verdicts = false
