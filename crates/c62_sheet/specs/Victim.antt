-- Which placed number makes way for a more urgent one (docs/SCHEDULING.md, "A step of a side").
use Rattle.std.specs.Prelude.{◌≡◌, ◌⊎◌, ℕ, ◌<◌, ◌≤◌, List, Option, MatchOption}
use Rattle.c62_op.specs.Units.{index_of}
use Rattle.c62_insn.specs.declared.insn.Insn.{Insn}
use Rattle.c62_depend.specs.Height.{height}
use Rattle.c62_sheet.specs.declared.entry.Spot.{Spot}
use Rattle.c62_sheet.specs.Lawful.{Spots, IsAt}
use Rattle.c62_sheet.specs.Least.{IsEarly, FitsWithout}
use Rattle.c62_sheet.specs.Chain.{Leads}

-- q keeps i from a cycle: it stands there and is less urgent, i does not depend on it, directly or through others, and
-- without it alone some unit of i keeps the packet rules there
pub record IsInTheWay (block : List Insn) (set : Spots) (i cycle q : ℕ) : Type 0 where
  pub spot : Spot
  pub placed : IsAt set q spot
  pub stands : spot.cycle ≡ cycle
  pub lower : height block q < height block i
  pub apart : Leads block q i → ⊥
  pub fits : FitsWithout block set i cycle q

-- a number makes way before another, or is it: by the least height, and then by the greatest number
abbrev pub MakesWayBefore : List Insn → ℕ → ℕ → Type 0
MakesWayBefore block q k = (height block q < height block k) ⊎ ((height block q ≡ height block k) × (k ≤ q))

-- the victim of i: of those that keep it from its early cycle the first to make way
pub record IsVictim (block : List Insn) (set : Spots) (i q : ℕ) : Type 0 where
  pub early : ℕ
  pub is_early : IsEarly block set i early
  pub in_the_way : IsInTheWay block set i early q
  pub first : (k : ℕ) → IsInTheWay block set i early k → MakesWayBefore block q k

-- of those on the first n units of a cycle that keep i from it the first to make way
pub record IsFirstOf (block : List Insn) (set : Spots) (i cycle n q : ℕ) : Type 0 where
  pub in_the_way : IsInTheWay block set i cycle q
  pub first : (k : ℕ) (way : IsInTheWay block set i cycle k) → index_of way.spot.unit < n → MakesWayBefore block q k

abbrev pub IsFirstBefore : List Insn → Spots → ℕ → ℕ → ℕ → Option ℕ → Type 0
IsFirstBefore block set i cycle n first =
    MatchOption first ((k : ℕ) (way : IsInTheWay block set i cycle k) → index_of way.spot.unit < n → ⊥) (IsFirstOf block set i cycle n)

-- nothing keeps i from its early cycle that may make way
abbrev pub HasNoVictim : List Insn → Spots → ℕ → Type 0
HasNoVictim block set i = (early q : ℕ) → IsEarly block set i early → IsInTheWay block set i early q → ⊥

-- the victim of i, or that there is none
abbrev pub FindsVictim : List Insn → Spots → ℕ → Option ℕ → Type 0
FindsVictim block set i found = MatchOption found (HasNoVictim block set i) (IsVictim block set i)
