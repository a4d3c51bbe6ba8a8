-- In a lawful schedule no two instructions go over one cross path in a cycle.
use Rattle.std.proofs.Common.{◌≡◌, ℕ, List, Option, Some, sym, subst, true}
use Rattle.std.specs.Prelude.{slice_get, IsTrue}
use Rattle.c62_op.specs.declared.register.Side.{Side}
use Rattle.c62_op.specs.declared.register.Unit.{Unit as FunctionalUnit}
use Rattle.c62_op.specs.Shape.{side_of, crosses_to}
use Rattle.c62_op.specs.Takes.{takes}
use Rattle.c62_op.proofs.SideLemmas.{takes_on_side}
use Rattle.c62_insn.specs.declared.insn.Insn.{Insn}
use Rattle.c62_insn.specs.Insn.{op_of, operands_of}
use Rattle.c62_rules.proofs.Capacities.{the-rules}
use Rattle.c62_sheet.specs.Lawful.{issue_at, issues}
use Rattle.c62_sheet.proofs.IssuesOf.{placement-issued}
use Rattle.c62_sheet.proofs.Used.{insn_at}
use Rattle.c62_bound.specs.Bound.{taken_in, is_taken}
use Rattle.c62_bound.proofs.Seated.{schedules_seated}
use Rattle.c62_raised.specs.Laws.{SchedulesAreSeatedAcross}

taken_at : (block : List Insn) (i : ℕ) (insn : Insn) (unit : FunctionalUnit) → slice_get block i ≡ Some insn
    → IsTrue (is_taken block i unit)
    → takes (op_of insn) (operands_of insn) unit ≡ true
taken_at block i insn unit at is = subst (λ (o : Option Insn). taken_in o unit ≡ true) at is

-- on a unit that takes it, its source comes over the cross path to that side
pub uses_cross : (insn : Insn) (unit : FunctionalUnit) (side : Side) → takes (op_of insn) (operands_of insn) unit ≡ true
    → (side_of (operands_of insn) ≡ Some side) × IsTrue (crosses_to side (operands_of insn))
    → (unit.side ≡ side) × IsTrue (crosses_to unit.side (operands_of insn))
uses_cross insn unit side takes over =
    let there : unit.side ≡ side = takes_on_side (op_of insn) (operands_of insn) unit side over.0 takes in
    (there, subst (λ (r : Side). IsTrue (crosses_to r (operands_of insn))) (sym there) over.1)

pub schedules_across : (block : List Insn) → SchedulesAreSeatedAcross block
schedules_across block set plan lawful complete =
    let seated = schedules_seated block set plan lawful complete in
    record {
      seated = seated;
      each_cross = λ side i j s t low small is_i is_j cycles over_i over_j. (
          let first = insn_at block i low in
          let second = insn_at block j small in
          (the-rules (issues block set)).cross_paths.0 (λ cycle r is. lawful.rules.enough cycle r) side i j
          (issue_at first.0 s) (issue_at second.0 t)
          (placement-issued block set i first.0 s lawful.sized first.1 is_i)
          (placement-issued block set j second.0 t lawful.sized second.1 is_j)
          cycles (uses_cross first.0 s.unit side (taken_at block i first.0 s.unit first.1 (seated.units i s is_i))
          (over_i first.0 first.1))
          (uses_cross second.0 t.unit side (taken_at block j second.0 t.unit second.1 (seated.units j t is_j))
          (over_j second.0 second.1)));
    }
