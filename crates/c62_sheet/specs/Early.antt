-- The first cycle in which an instruction keeps its bound to one other, and to all that it depends on directly.
use Rattle.std.specs.Prelude.{◌≡◌, ℕ, ◌<◌, ◌≤◌, ℤ, pos, ◌≤ℤ◌, ◌+ℤ◌, List, length, slice_index, Option, Some}
use Rattle.c62_insn.specs.declared.insn.Insn.{Insn}
use Rattle.c62_depend.specs.declared.limits.TheConstants.{ISSUE_CYCLES}
use Rattle.c62_depend.specs.declared.links.Link.{Link}
use Rattle.c62_depend.specs.Direct.{IsDirect, DependsDirectly}
use Rattle.c62_sheet.specs.declared.entry.Spot.{Spot}
use Rattle.c62_sheet.specs.Lawful.{Spots, IsAt}

-- where a number is placed, it is below the limit of cycles
abbrev pub IsPlacedEarly : Spots → ℕ → Type 0
IsPlacedEarly set i = (s : Spot) → IsAt set i s → s.cycle < ISSUE_CYCLES

-- the latency from the other instruction, where that is placed, is over in this cycle
abbrev pub IsAfterLink : Spots → Link → ℕ → Type 0
IsAfterLink set link cycle = (s : Spot) → IsAt set link.number s → (pos s.cycle +ℤ link.latency) ≤ℤ pos cycle

-- the least such cycle
pub record IsBoundBy (set : Spots) (link : Link) (cycle : ℕ) : Type 0 where
  pub after : IsAfterLink set link cycle
  pub least : (other : ℕ) → IsAfterLink set link other → cycle ≤ other

-- the least cycle in which this latency from number h, where there is one and h is placed, is over
pub record IsFirstBehind (set : Spots) (h : ℕ) (latency : Option ℤ) (cycle : ℕ) : Type 0 where
  pub after : (cycles : ℤ) (s : Spot) → latency ≡ Some cycles → IsAt set h s → (pos s.cycle +ℤ cycles) ≤ℤ pos cycle
  pub least : (other : ℕ) → ((cycles : ℤ) (s : Spot) → latency ≡ Some cycles → IsAt set h s → (pos s.cycle +ℤ cycles) ≤ℤ pos other) → cycle ≤ other

-- the latencies of all that i depends on directly are over in this cycle
abbrev pub IsAfterDirect : List Insn → Spots → ℕ → ℕ → Type 0
IsAfterDirect block set i cycle = (h : ℕ) (cycles : ℤ) (s : Spot) → IsDirect block h i cycles → IsAt set h s → (pos s.cycle +ℤ cycles) ≤ℤ pos cycle

-- the least such cycle: that of a ready number is its early cycle
pub record IsDirectEarly (block : List Insn) (set : Spots) (i cycle : ℕ) : Type 0 where
  pub after : IsAfterDirect block set i cycle
  pub least : (other : ℕ) → IsAfterDirect block set i other → cycle ≤ other

-- that cycle of each number
pub record AreEarly (block : List Insn) (set : Spots) (earliest : List ℕ) : Type 0 where
  pub sized : length earliest ≡ length block
  pub each : (j : ℕ) → j < length block → IsDirectEarly block set j (slice_index earliest j)

-- of each number that does not depend directly on number i
pub record AreEarlyBut (block : List Insn) (i : ℕ) (set : Spots) (earliest : List ℕ) : Type 0 where
  pub sized : length earliest ≡ length block
  pub each : (j : ℕ) → j < length block → (DependsDirectly block i j → ⊥) → IsDirectEarly block set j (slice_index earliest j)
