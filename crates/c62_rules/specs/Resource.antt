-- What the instructions of a cycle share: a row for each kind of resource, and what each instruction takes (docs/MACHINE.md,
-- "Packet rules"; SPRU189, "Resource Constraints").
use Rattle.std.specs.Prelude.{ℕ, ◌+◌, Bool, false, nat_lt, if◌then◌else◌, List, [], ◌∷◌, ◌++◌, map, Option, Some, None, codes}
use Rattle.c62_op.specs.declared.register.Side.{Side}
use Rattle.c62_op.specs.declared.register.Side.TheVariants.{A, B}
use Rattle.c62_op.specs.declared.register.Unit.{Unit as FunctionalUnit}
use Rattle.c62_op.specs.Units.{index_of}
use Rattle.c62_op.specs.Register.{register_index}
use Rattle.c62_op.specs.Shape.{crosses_to, data_path_of}
use Rattle.c62_op.specs.Takes.{same_side, same_reg, same_unit}
use Rattle.c62_insn.specs.declared.insn.Insn.{Insn}
use Rattle.c62_insn.specs.Insn.{operands_of, operand_reads}
use Rattle.c62_rules.specs.declared.resource.CycleRule.{CycleRule}
use Rattle.c62_rules.specs.declared.resource.CycleRule.TheVariants.{P1, P2, P3, P4}
use Rattle.c62_rules.specs.declared.resource.Resource.{Resource}
use Rattle.c62_rules.specs.declared.resource.Resource.TheVariants.{OnUnit, CrossPath, DataPath, ReadsOf}

abbrev pub rule_name : CycleRule → List ℕ
rule_name P1 = codes "P1"
rule_name P2 = codes "P2"
rule_name P3 = codes "P3"
rule_name P4 = codes "P4"

-- What the table says of a kind of resource: which rule is broken where a cycle takes more of one than it has, how many it
-- has of each, and the place of the first of the kind among all.
pub record Row : Type 0 where
  pub rule : CycleRule
  pub capacity : ℕ
  pub first : ℕ

-- THE TABLE
abbrev pub row_of : Resource → Row
row_of (OnUnit _) = record { rule = P1; capacity = 1; first = 0 }
row_of (CrossPath _) = record { rule = P2; capacity = 1; first = 8 }
row_of (DataPath _) = record { rule = P3; capacity = 1; first = 10 }
row_of (ReadsOf _) = record { rule = P4; capacity = 4; first = 12 }

abbrev pub rule_of : Resource → CycleRule
rule_of r = (row_of r).rule

abbrev pub capacity_of : Resource → ℕ
capacity_of r = (row_of r).capacity

-- the cross path to the units of this side, where a source comes over it
abbrev pub cross_path_taken : Side → Bool → List Resource
cross_path_taken side crosses = if crosses then CrossPath side ∷ [] else []

abbrev pub data_path_taken : Option Side → List Resource
data_path_taken None = []
data_path_taken (Some side) = DataPath side ∷ []

-- what an instruction issued on a unit takes but for reads: the unit, the cross path, the data path
abbrev pub paths_taken : Insn → FunctionalUnit → List Resource
paths_taken insn unit =
    OnUnit unit ∷ [] ++ cross_path_taken unit.side (crosses_to unit.side (operands_of insn)) ++ data_path_taken (data_path_of (operands_of insn))

-- WHAT EACH TAKES: all that an instruction issued on a unit takes, each resource as often as it takes it
abbrev pub taken_by : Insn → FunctionalUnit → List Resource
taken_by insn unit = paths_taken insn unit ++ map ReadsOf (operand_reads insn)

abbrev pub same_resource : Resource → Resource → Bool
same_resource (OnUnit unit) (OnUnit other) = same_unit unit other
same_resource (CrossPath side) (CrossPath other) = same_side side other
same_resource (DataPath side) (DataPath other) = same_side side other
same_resource (ReadsOf reg) (ReadsOf other) = same_reg reg other
same_resource _ _ = false

-- ---- the places of the resources in one row, which code packs

abbrev pub side_number : Side → ℕ
side_number A = 0
side_number B = 1

-- which one of its kind a resource is
abbrev pub number_of : Resource → ℕ
number_of (OnUnit unit) = index_of unit
number_of (CrossPath side) = side_number side
number_of (DataPath side) = side_number side
number_of (ReadsOf reg) = register_index reg

abbrev pub place_of : Resource → ℕ
place_of r = (row_of r).first + number_of r

-- the rule of the resource at a place
abbrev pub rule_at : ℕ → CycleRule
rule_at place = if nat_lt place 8 then P1 else (if nat_lt place 10 then P2 else (if nat_lt place 12 then P3 else P4))

-- the capacity of the resource at a place, of which there are 44
abbrev pub capacity_at : ℕ → ℕ
capacity_at place = if nat_lt place 12 then 1 else (if nat_lt place 44 then 4 else 7)
