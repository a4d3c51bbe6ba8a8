-- Sets of functional units (docs/MACHINE.md, "Register files and units").
use Rattle.std.specs.Prelude.{◌≡◌, Bool, ◌||◌, ◌==◌}
use Rattle.std.specs.Int.{bit_at}
use Rattle.c62_op.specs.declared.register.Unit.{Unit as FunctionalUnit}
use Rattle.c62_op.specs.Units.{index_of}
use Rattle.c62_insn.specs.declared.unit_set.UnitSet.{UnitSet}

-- whether the unit is in the set
abbrev pub unit_in : UnitSet → FunctionalUnit → Bool
unit_in set unit = bit_at set.0 (index_of unit) == 1

-- the set with a unit added
abbrev pub HasAdded : UnitSet → FunctionalUnit → UnitSet → Type 0
HasAdded set unit more = (other : FunctionalUnit) → unit_in more other ≡ (unit_in set other || (index_of other == index_of unit))
