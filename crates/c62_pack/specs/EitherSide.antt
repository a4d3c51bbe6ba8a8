-- Sets of placements in which a branch to a block stands on either side (docs/SCHEDULING.md, "Either side").
use Rattle.std.specs.Prelude.{◌≡◌, ℕ, ◌*◌, ◌<◌, ℤ, pos, ◌≤ℤ◌, ◌+ℤ◌, Bool, false, List, length, Option, Some, None, slice_get, IsTrue, IsSome}
use Rattle.c62_op.specs.declared.register.Unit.{Unit as FunctionalUnit}
use Rattle.c62_insn.specs.declared.insn.Insn.{Insn}
use Rattle.c62_insn.specs.Stands.{may_stand}
use Rattle.c62_rules.specs.PacketRules.{KeepsPacketRules}
use Rattle.c62_rules.specs.Dependence.{Bounds, Depends}
use Rattle.c62_sheet.specs.declared.entry.Spot.{Spot}
use Rattle.c62_sheet.specs.Lawful.{Spots, IsAt, spot_at, issues}

-- whether a unit takes an instruction, and is the written one where one is written
abbrev pub may_stand_at : Option Insn → FunctionalUnit → Bool
may_stand_at None unit = false
may_stand_at (Some insn) unit = may_stand insn unit

-- A set that keeps all that a lawful one does, but that no side is asked of a branch to a block. Of all others the operands decide the side
-- of the units that take them.
pub record IsLawfulOnEitherSide (block : List Insn) (set : Spots) : Type 0 where
  pub sized : length set ≡ length block
  pub units : (i : ℕ) (s : Spot) → IsAt set i s → IsTrue (may_stand_at (slice_get block i) s.unit)
  pub within : (i : ℕ) (s : Spot) → IsAt set i s → s.cycle < 5 * length block
  pub rules : KeepsPacketRules (issues block set)
  pub founded : (i j : ℕ) (t : Spot) → Depends block i j → IsAt set j t → IsSome (spot_at set i)
  pub delays : (i j : ℕ) (bound : ℤ) (s t : Spot) → Bounds block i j bound → IsAt set i s → IsAt set j t → (pos s.cycle +ℤ bound) ≤ℤ pos t.cycle
