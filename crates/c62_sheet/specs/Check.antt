-- Why a placement is refused: the rules in the order in which they are asked (docs/SCHEDULING.md, "Why a spot is
-- refused").
use Rattle.std.specs.Prelude.{◌≡◌, ℕ, ◌+◌, ◌*◌, ◌<◌, ◌≤◌, false, List, length, None, IsSome, Result, MatchResult}
use Rattle.c62_insn.specs.declared.insn.Insn.{Insn}
use Rattle.c62_rules.specs.Capacity.{IsBroken, rank_of}
use Rattle.c62_rules.specs.Dependence.{Depends}
use Rattle.c62_depend.specs.Side.{stands_on}
use Rattle.c62_sheet.specs.declared.entry.Spot.{Spot}
use Rattle.c62_sheet.specs.declared.entry.Rule.{Rule}
use Rattle.c62_sheet.specs.declared.entry.Rule.TheVariants.{Placed, Unit as WrongUnit, Limit, Missing, Delay, InCycle}
use Rattle.c62_sheet.specs.declared.entry.Unlawful.{Unlawful}
use Rattle.c62_sheet.specs.Lawful.{Spots, spot_at, placed, issues, IsLawful}
use Rattle.c62_sheet.specs.Least.{IsAfter, IsEarly}

-- something that i depends on is not placed
abbrev pub LacksSome : List Insn → Spots → ℕ → Type 0
LacksSome block set i = (h : ℕ) × Depends block h i × (spot_at set h ≡ None)

-- what a rule has against the triple (i, s)
abbrev pub Breaks : List Insn → Spots → ℕ → Spot → Rule → Type 0
Breaks block set i s Placed = IsSome (spot_at set i)
Breaks block set i s WrongUnit = stands_on block i s.unit ≡ false
Breaks block set i s Limit = 5 * length block ≤ s.cycle
Breaks block set i s Missing = LacksSome block set i
Breaks block set i s Delay = IsAfter block set i s.cycle → ⊥
Breaks block set i s (InCycle rule) = IsBroken rule s.cycle (issues block (placed set i s))

-- the position of a rule in the order in which they are asked
abbrev pub turn_of : Rule → ℕ
turn_of Placed = 0
turn_of WrongUnit = 1
turn_of Limit = 2
turn_of Missing = 3
turn_of Delay = 4
turn_of (InCycle rule) = 5 + rank_of rule

-- the first rule that has something against the triple
pub record IsFirst (block : List Insn) (set : Spots) (i : ℕ) (s : Spot) (rule : Rule) : Type 0 where
  pub broken : Breaks block set i s rule
  pub kept : (earlier : Rule) → turn_of earlier < turn_of rule → Breaks block set i s earlier → ⊥

-- the cycle that is told with a rule
abbrev pub IsTold : List Insn → Spots → ℕ → Spot → Rule → ℕ → Type 0
IsTold block set i s Delay cycle = IsEarly block set i cycle
IsTold block set i s _ cycle = cycle ≡ s.cycle

-- the triple (i, s) may be added
pub record IsOpen (block : List Insn) (set : Spots) (i : ℕ) (s : Spot) : Type 0 where
  pub free : spot_at set i ≡ None
  pub lawful : IsLawful block (placed set i s)

-- the triple is refused, for the first rule against it
pub record IsRefused (block : List Insn) (set : Spots) (i : ℕ) (s : Spot) (why : Unlawful) : Type 0 where
  pub unlawful : IsOpen block set i s → ⊥
  pub first : IsFirst block set i s why.rule
  pub told : IsTold block set i s why.rule why.cycle

-- whether the triple may be added, or why not
abbrev pub Judges : List Insn → Spots → ℕ → Spot → Result Unit Unlawful → Type 0
Judges block set i s verdict = MatchResult verdict (λ _. IsOpen block set i s) (IsRefused block set i s)
