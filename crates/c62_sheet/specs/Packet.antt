-- What the packet rules have against placing one more instruction.
use Rattle.std.specs.Prelude.{ℕ, List, IsTrue}
use Rattle.c62_insn.specs.declared.insn.Insn.{Insn}
use Rattle.c62_rules.specs.declared.resource.CycleRule.{CycleRule}
use Rattle.c62_rules.specs.Capacity.{AreEnough, IsFirstBroken}
use Rattle.c62_depend.specs.Side.{stands_on}
use Rattle.c62_sheet.specs.declared.entry.Spot.{Spot}
use Rattle.c62_sheet.specs.Lawful.{Spots, placed, issues}

-- of the packet rules of its cycle, none speaks against the triple (i, s)
abbrev pub KeepsAll : List Insn → Spots → ℕ → Spot → Type 0
KeepsAll block set i s = AreEnough s.cycle (issues block (placed set i s))

-- this is the first of them that does
abbrev pub BreaksFirst : List Insn → Spots → ℕ → Spot → CycleRule → Type 0
BreaksFirst block set i s rule = IsFirstBroken rule s.cycle (issues block (placed set i s))

-- number i may stand on the unit, and no packet rule of its cycle speaks against the triple
pub record Fits (block : List Insn) (set : Spots) (i : ℕ) (s : Spot) : Type 0 where
  pub stands : IsTrue (stands_on block i s.unit)
  pub keeps : KeepsAll block set i s
