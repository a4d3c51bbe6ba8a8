-- In a lawful schedule each instruction has a cycle and a unit that takes it.
use Rattle.std.proofs.Common.{◌≡◌, ℕ, List, Option, Some, None, refl, true}
use Rattle.std.specs.Prelude.{slice_get, IsTrue}
use Rattle.std.proofs.lemmas.Bool.{and_parts}
use Rattle.c62_op.specs.declared.register.Unit.{Unit as FunctionalUnit}
use Rattle.c62_op.specs.Takes.{takes, same_side, is_written}
use Rattle.c62_insn.specs.declared.insn.Insn.{Insn}
use Rattle.c62_insn.specs.Insn.{op_of, operands_of, unit_of}
use Rattle.c62_insn.specs.Stands.{may_stand}
use Rattle.c62_depend.specs.Side.{side_in, stands_on, suits_at}
use Rattle.c62_rules.proofs.Capacities.{one-each-unit, one-each-data-path}
use Rattle.c62_sheet.specs.Lawful.{issue_at, issues}
use Rattle.c62_sheet.specs.Counts.{set_length}
use Rattle.c62_sheet.proofs.IssuesOf.{placement-issued}
use Rattle.c62_sheet.proofs.Landings.{delay_ends}
use Rattle.c62_sheet.proofs.Used.{insn_at}
use Rattle.c62_bound.specs.Bound.{taken_in, is_taken}
use Rattle.c62_bound.specs.Laws.{SchedulesAreSeated, NoScheduleIsShorter}
use Rattle.c62_bound.proofs.Needs.{no_seating_shorter}

-- a unit of a number's side that it may stand on takes it
taken_there : (block : List Insn) (i : ℕ) (unit : FunctionalUnit) → IsTrue (stands_on block i unit)
    → IsTrue (is_taken block i unit)
unfolding stands_on
taken_there block i unit is = by_insn (slice_get block i) is
  where
    by_insn : (o : Option Insn) → suits_at block o unit ≡ true → taken_in o unit ≡ true
    by_insn None h = cc
    by_insn (Some insn) h =
        let stands = (and_parts (same_side unit.side (side_in block insn)) (may_stand insn unit) h).1 in
        (and_parts (is_written (unit_of insn) unit) (takes (op_of insn) (operands_of insn) unit) stands).1

pub schedules_seated : (block : List Insn) → SchedulesAreSeated block
schedules_seated block set plan lawful complete = record {
  complete = complete;
  units = λ i s is. taken_there block i s.unit (lawful.units i s is);
  each_unit = λ i j s t low small is_i is_j cycles units. (
      let first = insn_at block i low in
      let second = insn_at block j small in
      one-each-unit (issues block set) lawful.rules t.unit i j (issue_at first.0 s) (issue_at second.0 t)
      (placement-issued block set i first.0 s lawful.sized first.1 is_i)
      (placement-issued block set j second.0 t lawful.sized second.1 is_j)
      cycles units refl);
  each_path = λ side i j s t low small is_i is_j cycles over_i over_j. (
      let first = insn_at block i low in
      let second = insn_at block j small in
      one-each-data-path (issues block set) lawful.rules side i j (issue_at first.0 s) (issue_at second.0 t)
      (placement-issued block set i first.0 s lawful.sized first.1 is_i)
      (placement-issued block set j second.0 t lawful.sized second.1 is_j)
      cycles (over_i first.0 first.1) (over_j second.0 second.1));
  delays = λ i j bound s t bounds is_i is_j. lawful.delays i j bound s t bounds is_i is_j;
  ends = λ i insn s at is. delay_ends block set plan lawful i insn s at is;
}

pub no_shorter : (block : List Insn) → NoScheduleIsShorter block
no_shorter block set plan lawful complete = no_seating_shorter block set (set_length block set) plan
    (schedules_seated block set plan lawful complete)
