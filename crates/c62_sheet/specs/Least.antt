-- What may be placed next, and where (docs/SCHEDULING.md, "Ready and early" and "Least spot").
use Rattle.std.specs.Prelude.{◌≡◌, ℕ, ◌<◌, ◌≤◌, ◌⊎◌, ℤ, pos, ◌≤ℤ◌, ◌+ℤ◌, List, length, Option, None, MatchOption, IsSome, IsTrue}
use Rattle.c62_op.specs.declared.register.Side.{Side}
use Rattle.c62_op.specs.declared.register.Unit.{Unit as FunctionalUnit}
use Rattle.c62_insn.specs.declared.insn.Insn.{Insn}
use Rattle.c62_op.specs.Units.{index_of}
use Rattle.c62_rules.specs.PacketRules.{KeepsPacketRules}
use Rattle.c62_rules.specs.Dependence.{Bounds, Depends}
use Rattle.c62_depend.specs.Height.{height}
use Rattle.c62_depend.specs.Side.{side, stands_on}
use Rattle.c62_sheet.specs.declared.entry.Spot.{Spot}
use Rattle.c62_sheet.specs.Lawful.{Spots, IsAt, spot_at, placed, withdrawn, issues, IsLawful}

-- not placed, and all that it depends on is
pub record IsReady (block : List Insn) (set : Spots) (i : ℕ) : Type 0 where
  pub free : spot_at set i ≡ None
  pub founded : (h : ℕ) → Depends block h i → IsSome (spot_at set h)

-- the bounds of all that i depends on are kept in this cycle
abbrev pub IsAfter : List Insn → Spots → ℕ → ℕ → Type 0
IsAfter block set i cycle = (h : ℕ) (bound : ℤ) (s : Spot) → Bounds block h i bound → IsAt set h s → (pos s.cycle +ℤ bound) ≤ℤ pos cycle

-- the least such cycle
pub record IsEarly (block : List Insn) (set : Spots) (i cycle : ℕ) : Type 0 where
  pub after : IsAfter block set i cycle
  pub least : (other : ℕ) → IsAfter block set i other → cycle ≤ other

-- a spot comes before another, or is it: by cycle, and then by unit in the order L, S, M, D
abbrev pub Precedes : Spot → Spot → Type 0
Precedes s t = (s.cycle < t.cycle) ⊎ ((s.cycle ≡ t.cycle) × (index_of s.unit ≤ index_of t.unit))

-- the first spot at which adding i leaves the set lawful
pub record IsLeast (block : List Insn) (set : Spots) (i : ℕ) (s : Spot) : Type 0 where
  pub lawful : IsLawful block (placed set i s)
  pub first : (t : Spot) → IsLawful block (placed set i t) → Precedes s t

-- no spot leaves the set lawful
abbrev pub HasNoSpot : List Insn → Spots → ℕ → Type 0
HasNoSpot block set i = (t : Spot) → IsLawful block (placed set i t) → ⊥

-- the first spot, or that there is none
abbrev pub FindsLeast : List Insn → Spots → ℕ → Option Spot → Type 0
FindsLeast block set i found = MatchOption found (HasNoSpot block set i) (IsLeast block set i)

-- a ready number of a side
pub record IsReadyOn (block : List Insn) (set : Spots) (of : Side) (i : ℕ) : Type 0 where
  pub within : i < length block
  pub ready : IsReady block set i
  pub sided : side block i ≡ of

-- a number comes before another, or is it: by the greater height, and then by the lower number
abbrev pub IsBefore : List Insn → ℕ → ℕ → Type 0
IsBefore block i k = (height block k < height block i) ⊎ ((height block k ≡ height block i) × (i ≤ k))

-- the ready number of a side that is greatest in height, and then the lowest
pub record IsPick (block : List Insn) (set : Spots) (of : Side) (i : ℕ) : Type 0 where
  pub competes : IsReadyOn block set of i
  pub best : (k : ℕ) → IsReadyOn block set of k → IsBefore block i k

-- no number of a side is ready
abbrev pub HasNoPick : List Insn → Spots → Side → Type 0
HasNoPick block set of = (k : ℕ) → IsReadyOn block set of k → ⊥

-- the pick of a side, or that there is none
abbrev pub Picks : List Insn → Spots → Side → Option ℕ → Type 0
Picks block set of found = MatchOption found (HasNoPick block set of) (IsPick block set of)

-- no placed number depends on i
abbrev pub IsLast : List Insn → Spots → ℕ → Type 0
IsLast block set i = (j : ℕ) → Depends block i j → spot_at set j ≡ None

-- every number is placed
abbrev pub IsComplete : List Insn → Spots → Type 0
IsComplete block set = (i : ℕ) → i < length block → IsSome (spot_at set i)

-- with q taken out alone, i keeps the packet rules in this cycle on some unit that it may stand on
pub record FitsWithout (block : List Insn) (set : Spots) (i cycle q : ℕ) : Type 0 where
  pub unit : FunctionalUnit
  pub stands : IsTrue (stands_on block i unit)
  pub rules : KeepsPacketRules (issues block (placed (withdrawn set q) i (record { cycle = cycle; unit = unit })))
