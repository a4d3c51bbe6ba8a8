-- The side of an instruction, and the units that it may stand on.
use Rattle.std.specs.Prelude.{◌≡◌, ℕ, ◌<◌, List, length, slice_index_or}
use Rattle.c62_op.specs.declared.register.Unit.{Unit as FunctionalUnit}
use Rattle.c62_insn.specs.declared.insn.Insn.{Insn}
use Rattle.c62_insn.specs.UnitSet.{unit_in}
use Rattle.c62_depend.specs.declared.side.UnitChoice.{UnitChoice}
use Rattle.c62_depend.specs.Side.{side, stands_on}

pub record IsUnitChoice (block : List Insn) (i : ℕ) (choice : UnitChoice) : Type 0 where
  pub side : choice.side ≡ side block i
  pub units : (unit : FunctionalUnit) → unit_in choice.units unit ≡ stands_on block i unit

-- those of the first numbers of a block
pub record AreUnitChoices (block : List Insn) (count : ℕ) (choices : List UnitChoice) : Type 0 where
  pub long : length choices ≡ count
  pub each : (k : ℕ) (d : UnitChoice) → k < length choices → IsUnitChoice block k (slice_index_or choices k d)
