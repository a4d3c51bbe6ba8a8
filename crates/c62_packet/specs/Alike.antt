-- Blocks of packets that are the same but for the lines that their instructions came from.
use Rattle.std.specs.Prelude.{◌≡◌, ℕ, List, map, Option}
use Rattle.c62_rules.specs.PacketRules.{Issue}
use Rattle.c62_packet.specs.Packed.{Packed, issues_of}

-- a block without the lines of its instructions
pub record Unlined : Type 0 where
  pub label : Option (List ℕ)
  pub cycles : ℕ
  pub issues : List Issue

abbrev pub unlined : Packed → Unlined
unlined block = record { label = block.label; cycles = block.cycles; issues = issues_of block.placed }

-- the same but for lines
abbrev pub AreAlike : List Packed → List Packed → Type 0
AreAlike packets others = map unlined packets ≡ map unlined others
