-- Sets of placements, and which are lawful (docs/SCHEDULING.md, "Lawful").
use Rattle.std.specs.Prelude.{◌≡◌, ℕ, ◌*◌, ◌<◌, ℤ, pos, ◌≤ℤ◌, ◌+ℤ◌, List, [], ◌∷◌, length, Option, Some, None, option_map, slice_index_or, slice_set, replicate, IsTrue, IsSome}
use Rattle.c62_insn.specs.declared.insn.Insn.{Insn}
use Rattle.c62_rules.specs.PacketRules.{Issue, Issues, KeepsPacketRules}
use Rattle.c62_rules.specs.Dependence.{Bounds, Depends}
use Rattle.c62_read.specs.Block.{Serial}
use Rattle.c62_depend.specs.Side.{stands_on}
use Rattle.c62_sheet.specs.declared.entry.Spot.{Spot}

-- a set of triples (number, cycle, unit), each number at most once: the spot of each number of a block
abbrev pub Spots : Type 0
Spots = List (Option Spot)

-- a plan, and where its instructions are placed
pub record Placements : Type 0 where
  pub plan : Serial
  pub spots : Spots

-- nothing is placed
abbrev pub nothing_placed : ℕ → Spots
nothing_placed count = replicate count None

-- a plan of which nothing is placed
abbrev pub empty_sheet : Serial → Placements
empty_sheet plan = record { plan = plan; spots = nothing_placed (length plan.insns) }

-- the spot of a number, where it is placed
abbrev pub spot_at : Spots → ℕ → Option Spot
spot_at set i = slice_index_or set i None

-- the triple (i, s) is in the set
abbrev pub IsAt : Spots → ℕ → Spot → Type 0
IsAt set i s = spot_at set i ≡ Some s

-- the set with the triple (i, s)
abbrev pub placed : Spots → ℕ → Spot → Spots
placed set i s = slice_set set i (Some s)

-- the set without the triple of i
abbrev pub withdrawn : Spots → ℕ → Spots
withdrawn set i = slice_set set i None

-- an instruction at a spot
abbrev pub issue_at : Insn → Spot → Issue
issue_at insn s = record { insn = insn; cycle = s.cycle; unit = s.unit }

-- the instructions of a block, each issued where it is placed
abbrev pub issues : List Insn → Spots → Issues
issues [] set = []
issues (insn ∷ block) [] = []
issues (insn ∷ block) (spot ∷ set) = option_map (issue_at insn) spot ∷ issues block set

-- A set of placements that keeps all rules, with all that a placed instruction depends on. A block of n instructions has
-- the cycles below 5 n.
pub record IsLawful (block : List Insn) (set : Spots) : Type 0 where
  pub sized : length set ≡ length block
  pub units : (i : ℕ) (s : Spot) → IsAt set i s → IsTrue (stands_on block i s.unit)
  pub within : (i : ℕ) (s : Spot) → IsAt set i s → s.cycle < 5 * length block
  pub rules : KeepsPacketRules (issues block set)
  pub founded : (i j : ℕ) (t : Spot) → Depends block i j → IsAt set j t → IsSome (spot_at set i)
  pub delays : (i j : ℕ) (bound : ℤ) (s t : Spot) → Bounds block i j bound → IsAt set i s → IsAt set j t → (pos s.cycle +ℤ bound) ≤ℤ pos t.cycle
