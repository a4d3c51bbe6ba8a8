-- What takes an instruction or some in a cycle: what needs know, and the cross paths (docs/SCHEDULING.md, "Raised heights";
-- SPRU189, "Register File Cross Paths").
use Rattle.std.specs.Prelude.{◌≡◌, ℕ, ◌+◌, List, Some, slice_get, IsTrue}
use Rattle.c62_op.specs.declared.register.Side.{Side}
use Rattle.c62_op.specs.declared.register.Side.TheVariants.{A, B}
use Rattle.c62_op.specs.declared.operands.Operands.{Operands}
use Rattle.c62_op.specs.Shape.{side_of, crosses_to}
use Rattle.c62_insn.specs.declared.insn.Insn.{Insn}
use Rattle.c62_insn.specs.Insn.{operands_of}
use Rattle.c62_bound.specs.Bound.{width, kind_index, WaitsFor}
use Rattle.c62_raised.specs.declared.room.Room.{Room}
use Rattle.c62_raised.specs.declared.room.Room.TheVariants.{Of, Cross}

-- a source comes over the cross path to the units of this side, where the destination lies
abbrev pub CrossTo : Side → Operands → Type 0
CrossTo side operands = (side_of operands ≡ Some side) × IsTrue (crosses_to side operands)

-- a source of number j does
abbrev pub CrossesTo : List Insn → Side → ℕ → Type 0
CrossesTo block side j = (insn : Insn) → slice_get block j ≡ Some insn → CrossTo side (operands_of insn)

-- number j finds room nowhere else
abbrev pub WaitsIn : List Insn → Room → ℕ → Type 0
WaitsIn block (Of kind side) j = WaitsFor block kind side j
WaitsIn block (Cross side) j = CrossesTo block side j

-- how many instructions find room in a cycle
abbrev pub width_of : Room → ℕ
width_of (Of kind side) = width kind
width_of (Cross side) = 1

-- the rooms in their order: of side A, and then of side B, those of needs and the cross path
abbrev pub room_index : Room → ℕ
room_index (Of kind A) = kind_index kind
room_index (Cross A) = 7
room_index (Of kind B) = 8 + kind_index kind
room_index (Cross B) = 15
