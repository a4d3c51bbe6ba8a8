-- The packet rules P1 to P4 as one rule: the instructions of a cycle take of no resource more than there is (docs/MACHINE.md,
-- "Packet rules"; SPRU189, "Resource Constraints").
use Rattle.std.specs.Prelude.{◌≡◌, ℕ, ◌<◌, ◌≤◌, ◌==◌, if◌then◌else◌, Option, Some, None, count_by, sum_by}
use Rattle.c62_op.specs.declared.register.Unit.{Unit as FunctionalUnit}
use Rattle.c62_insn.specs.declared.insn.Insn.{Insn}
use Rattle.c62_rules.specs.declared.resource.CycleRule.{CycleRule}
use Rattle.c62_rules.specs.declared.resource.CycleRule.TheVariants.{P1, P2, P3, P4}
use Rattle.c62_rules.specs.declared.resource.Resource.{Resource}
use Rattle.c62_rules.specs.Issues.{Issue, Issues}
use Rattle.c62_rules.specs.Resource.{rule_of, capacity_of, taken_by, same_resource, place_of, rule_at, capacity_at}

-- how much of a resource an instruction issued on a unit takes
abbrev pub uses : Resource → Insn → FunctionalUnit → ℕ
uses r insn unit = count_by (λ taken. same_resource taken r) (taken_by insn unit)

-- how much of it what is issued takes of a cycle
abbrev pub uses_in : ℕ → Resource → Option Issue → ℕ
uses_in cycle r None = 0
uses_in cycle r (Some p) = if p.cycle == cycle then uses r p.insn p.unit else 0

abbrev pub used : Resource → ℕ → Issues → ℕ
used r cycle issues = sum_by (uses_in cycle r) issues

-- THE RULE: there is enough of the resource in this cycle
abbrev pub IsEnough : Resource → ℕ → Issues → Type 0
IsEnough r cycle issues = used r cycle issues ≤ capacity_of r

-- of each resource
abbrev pub AreEnough : ℕ → Issues → Type 0
AreEnough cycle issues = (r : Resource) → IsEnough r cycle issues

-- a rule by its name: there is enough of each resource that the table has under it
abbrev pub IsKept : CycleRule → ℕ → Issues → Type 0
IsKept rule cycle issues = (r : Resource) → rule_of r ≡ rule → IsEnough r cycle issues

-- a rule is broken: of one of its resources more is taken than there is
pub record IsBroken (rule : CycleRule) (cycle : ℕ) (issues : Issues) : Type 0 where
  pub resource : Resource
  pub of_rule : rule_of resource ≡ rule
  pub over : capacity_of resource < used resource cycle issues

-- the order in which the rules are told
abbrev pub rank_of : CycleRule → ℕ
rank_of P1 = 0
rank_of P2 = 1
rank_of P3 = 2
rank_of P4 = 3

-- the first rule that is broken in this cycle
pub record IsFirstBroken (rule : CycleRule) (cycle : ℕ) (issues : Issues) : Type 0 where
  pub broken : IsBroken rule cycle issues
  pub first : (other : CycleRule) → rank_of other < rank_of rule → IsKept other cycle issues

-- ---- laws

-- each resource has a place of its own, with the rule and the capacity that the table has for it
pub record HasItsPlace (r : Resource) : Type 0 where
  pub own : (other : Resource) → place_of other ≡ place_of r → other ≡ r
  pub rule : rule_at (place_of r) ≡ rule_of r
  pub capacity : capacity_at (place_of r) ≡ capacity_of r
