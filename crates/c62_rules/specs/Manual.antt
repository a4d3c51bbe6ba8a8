-- The rules of one cycle in the words of the manual (docs/MACHINE.md, "Packet rules"; SPRU189, "Resource Constraints"): the
-- table of resources says the same (laws).
use Rattle.std.specs.Prelude.{◌≡◌, ◌↔◌, ℕ, ◌≤◌, ◌==◌, if◌then◌else◌, Option, Some, None, sum_by, IsTrue}
use Rattle.c62_op.specs.declared.register.Side.{Side}
use Rattle.c62_op.specs.declared.register.Reg.{Reg}
use Rattle.c62_op.specs.declared.register.Unit.{Unit as FunctionalUnit}
use Rattle.c62_op.specs.Shape.{crosses_to, data_path_of}
use Rattle.c62_insn.specs.Insn.{operands_of, reads_count}
use Rattle.c62_rules.specs.declared.resource.CycleRule.TheVariants.{P1, P2, P3, P4}
use Rattle.c62_rules.specs.Issues.{Issue, Issues, IsIssued}
use Rattle.c62_rules.specs.Capacity.{IsKept}

-- of each cycle at most one issued instruction is such
abbrev pub AtMostOne : (Issue → Type 0) → Issues → Type 0
AtMostOne Is issues = (i j : ℕ) (p q : Issue) → IsIssued issues i p → IsIssued issues j q → p.cycle ≡ q.cycle → Is p → Is q → i ≡ j

-- P1: one instruction for each unit and cycle
abbrev pub HasOneEachUnit : Issues → Type 0
HasOneEachUnit issues = (unit : FunctionalUnit) → AtMostOne (λ p. p.unit ≡ unit) issues

-- an operand comes over the cross path to the units of this side: 1X to side A, 2X to side B
abbrev pub UsesCrossPath : Side → Issue → Type 0
UsesCrossPath side p = (p.unit.side ≡ side) × IsTrue (crosses_to p.unit.side (operands_of p.insn))

-- P2: of each cycle at most one uses 1X, and at most one 2X
abbrev pub HasOneEachCrossPath : Issues → Type 0
HasOneEachCrossPath issues = (side : Side) → AtMostOne (UsesCrossPath side) issues

-- an access over the data path of this file: T1 of file A, T2 of file B
abbrev pub UsesDataPath : Side → Issue → Type 0
UsesDataPath side p = data_path_of (operands_of p.insn) ≡ Some side

-- P3: two accesses of one cycle use different data paths
abbrev pub HasOneEachDataPath : Issues → Type 0
HasOneEachDataPath issues = (side : Side) → AtMostOne (UsesDataPath side) issues

-- how often what is issued in a cycle reads a register
abbrev pub reads_in : ℕ → Reg → Option Issue → ℕ
reads_in cycle reg None = 0
reads_in cycle reg (Some p) = if p.cycle == cycle then reads_count reg p.insn else 0

-- P4: in a cycle at most four operands read one register
abbrev pub HasFourReads : Issues → Type 0
HasFourReads issues = (cycle : ℕ) (reg : Reg) → sum_by (reads_in cycle reg) issues ≤ 4

-- ---- laws

-- each rule of the table is the manual's
pub record AreTheRules (issues : Issues) : Type 0 where
  pub units : ((cycle : ℕ) → IsKept P1 cycle issues) ↔ HasOneEachUnit issues
  pub cross_paths : ((cycle : ℕ) → IsKept P2 cycle issues) ↔ HasOneEachCrossPath issues
  pub data_paths : ((cycle : ℕ) → IsKept P3 cycle issues) ↔ HasOneEachDataPath issues
  pub reads : ((cycle : ℕ) → IsKept P4 cycle issues) ↔ HasFourReads issues
