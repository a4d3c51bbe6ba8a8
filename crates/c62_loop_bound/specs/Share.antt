-- What a cycle has so many of, and how much of it a pass of a kernel takes (docs/SCHEDULING.md, "Pipelined loops"; SPRU189,
-- "Resource Constraints").
use Rattle.std.specs.Prelude.{ℕ, ◌^◌, ◌<◌, ◌≤◌, Bool, false, not, ◌&&◌, ◌||◌, List, ◌∷◌, map, Option, Some, None, count_by, sum_by}
use Rattle.std.specs.List.{list_all}
use Rattle.std.specs.Int.{div_ceil}
use Rattle.c62_op.specs.declared.register.Side.{Side}
use Rattle.c62_op.specs.declared.register.Reg.{Reg}
use Rattle.c62_op.specs.declared.register.Letter.TheVariants.{S, M}
use Rattle.c62_op.specs.declared.register.Unit.{Unit as FunctionalUnit}
use Rattle.c62_op.specs.Shape.{side_of, crosses_to, data_path_of}
use Rattle.c62_op.specs.Takes.{takes, same_side, same_letter}
use Rattle.c62_op.specs.Units.{all_units}
use Rattle.c62_insn.specs.declared.insn.Insn.{Insn}
use Rattle.c62_insn.specs.declared.unit_set.UnitSet.{UnitSet}
use Rattle.c62_insn.specs.UnitSet.{unit_in}
use Rattle.c62_insn.specs.Insn.{op_of, operands_of, reads_count}
use Rattle.c62_loop_bound.specs.declared.share.Share.{Share}
use Rattle.c62_loop_bound.specs.declared.share.Share.TheVariants.{Units, CrossPath, DataPath, Reads}

-- ---- units

-- the units that may take something
abbrev pub Takers : Type 0
Takers = FunctionalUnit → Bool

-- an instruction, whichever unit is written
abbrev pub takers_of : Insn → Takers
takers_of insn = takes (op_of insn) (operands_of insn)

-- a branch to a label: .S1 and .S2
abbrev pub takers_of_branch : Takers
takers_of_branch = λ unit. same_letter unit.letter S

-- a step of the counter: the units of its side but .M, which writes with a delay
abbrev pub takers_of_step : Reg → Takers
takers_of_step counter = λ unit. same_side unit.side counter.side && not (same_letter unit.letter M)

-- those of what a pass issues at least: a branch, a step, and the work of an iteration
abbrev pub takers_in : Reg → List Insn → List Takers
takers_in counter body = takers_of_branch ∷ takers_of_step counter ∷ map takers_of body

-- all of them are of the set
abbrev pub are_within : UnitSet → Takers → Bool
are_within set takers = list_all (λ unit. not (takers unit) || unit_in set unit) all_units

-- ---- paths

abbrev pub is_side : Side → Option Side → Bool
is_side side None = false
is_side side (Some other) = same_side other side

-- a source comes over the cross path to the units of this side, where the destination lies
abbrev pub crosses_on : Side → Insn → Bool
crosses_on side insn = is_side side (side_of (operands_of insn)) && crosses_to side (operands_of insn)

-- an access goes over the data path of this side
abbrev pub goes_over : Side → Insn → Bool
goes_over side insn = is_side side (data_path_of (operands_of insn))

-- ---- shares

-- how much of it there is in a cycle
abbrev pub width_of : Share → ℕ
width_of (Units set) = count_by (unit_in set) all_units
width_of (CrossPath side) = 1
width_of (DataPath side) = 1
width_of (Reads reg) = 4

-- how much of it a pass takes at least
abbrev pub taken_of : Reg → List Insn → Share → ℕ
taken_of counter body (Units set) = count_by (are_within set) (takers_in counter body)
taken_of counter body (CrossPath side) = count_by (crosses_on side) body
taken_of counter body (DataPath side) = count_by (goes_over side) body
taken_of counter body (Reads reg) = sum_by (reads_count reg) body

-- the cycles that this takes
abbrev pub cycles_of : Reg → List Insn → Share → ℕ
cycles_of counter body share = div_ceil (taken_of counter body share) (width_of share)

-- ---- the greatest

-- so many cycles are as many as each share asks for: sets of some of the eight units, paths, and reads of each register
pub record AreCovered (counter : Reg) (body : List Insn) (cycles : ℕ) : Type 0 where
  pub units : (set : UnitSet) → set.0 < 2 ^ 8 → 0 < width_of (Units set) → cycles_of counter body (Units set) ≤ cycles
  pub cross_paths : (side : Side) → cycles_of counter body (CrossPath side) ≤ cycles
  pub data_paths : (side : Side) → cycles_of counter body (DataPath side) ≤ cycles
  pub reads : (reg : Reg) → cycles_of counter body (Reads reg) ≤ cycles
