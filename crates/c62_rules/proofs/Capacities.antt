-- The packet rules say that each cycle has enough of each resource.
use Rattle.std.proofs.Common.{arith, ◌≡◌, ℕ, suc, ◌+◌, ◌<◌, ◌≤◌, [], ◌∷◌, length, get_or, set, Option, Some, None, refl}
use Rattle.std.proofs.Common.{ap, inl, inr, subst}
use Rattle.std.specs.Prelude.{◌==◌, if◌then◌else◌, sum_by}
use Rattle.std.proofs.lemmas.Bool.{cases_eq}
use Rattle.std.proofs.lemmas.List.Sums.{sum_by-cons, sum_by-set}
use Rattle.c62_op.specs.declared.register.Side.{Side}
use Rattle.c62_op.specs.declared.register.Reg.{Reg}
use Rattle.c62_op.specs.declared.register.Unit.{Unit as FunctionalUnit}
use Rattle.c62_insn.specs.declared.insn.Insn.{Insn}
use Rattle.c62_insn.proofs.InsnLemmas.{reads_count_at_most_three}
use Rattle.c62_rules.specs.declared.resource.CycleRule.{CycleRule}
use Rattle.c62_rules.specs.declared.resource.CycleRule.TheVariants.{P1, P2, P3, P4}
use Rattle.c62_rules.specs.declared.resource.Resource.{Resource}
use Rattle.c62_rules.specs.declared.resource.Resource.TheVariants.{OnUnit, CrossPath, DataPath, ReadsOf}
use Rattle.c62_rules.specs.PacketRules.{Issue, Issues, IsIssued, KeepsPacketRules}
use Rattle.c62_rules.specs.Manual.{AtMostOne, HasOneEachUnit, HasOneEachDataPath, UsesCrossPath, UsesDataPath, reads_in}
use Rattle.c62_rules.specs.Manual.{AreTheRules}
use Rattle.c62_rules.specs.Resource.{capacity_of}
use Rattle.c62_rules.specs.Capacity.{uses, uses_in, used, IsEnough, AreEnough, IsKept}
use Rattle.c62_rules.proofs.ResourceUses.{uses-reads}
use Rattle.c62_rules.proofs.Users.{unit-user, cross-user, data-user, counts-elsewhere, at-most-one, one-in-each}

-- ---- the fourth rule

same-reads : (cycle : ℕ) (reg : Reg) (o : Option Issue) → uses_in cycle (ReadsOf reg) o ≡ reads_in cycle reg o
same-reads cycle reg None = refl
same-reads cycle reg (Some p) = ap (λ (n : ℕ). if p.cycle == cycle then n else 0) (uses-reads reg p.insn p.unit)

pub used-reads : (cycle : ℕ) (reg : Reg) (issues : Issues)
    → used (ReadsOf reg) cycle issues ≡ sum_by (reads_in cycle reg) issues
used-reads cycle reg [] = refl
used-reads cycle reg (o ∷ issues) =
    omega (
      arith,
      sum_by-cons (uses_in cycle (ReadsOf reg)) o issues,
      sum_by-cons (reads_in cycle reg) o issues,
      same-reads cycle reg o,
      used-reads cycle reg issues,
    )

-- ---- the rules

-- of each resource of a rule, by cases
pub of-each : (rule : CycleRule) (cycle : ℕ) (issues : Issues) → AreEnough cycle issues → IsKept rule cycle issues
of-each rule cycle issues enough r is = enough r

pub the-rules : (issues : Issues) → AreTheRules issues
the-rules issues = record {
  units = (
    (λ kept unit. at-most-one (OnUnit unit) (λ p. p.unit ≡ unit) (unit-user unit) issues
        (λ cycle. kept cycle (OnUnit unit) refl)),
    from_units,
  );
  cross_paths = (
    (λ kept side. at-most-one (CrossPath side) (UsesCrossPath side) (cross-user side) issues
        (λ cycle. kept cycle (CrossPath side) refl)),
    from_cross_paths,
  );
  data_paths = (
    (λ kept side. at-most-one (DataPath side) (UsesDataPath side) (data-user side) issues
        (λ cycle. kept cycle (DataPath side) refl)),
    from_data_paths,
  );
  reads = (
    (λ kept cycle reg. omega (arith, kept cycle (ReadsOf reg) refl, used-reads cycle reg issues)),
    from_reads,
  );
}
  where
    from_units : HasOneEachUnit issues → (cycle : ℕ) → IsKept P1 cycle issues
    from_units alone cycle (OnUnit unit) is = one-in-each (OnUnit unit) (λ p. p.unit ≡ unit) (unit-user unit) issues
        (alone unit) cycle
    from_units alone cycle _ is = absurd cc

    from_cross_paths : ((side : Side) → AtMostOne (UsesCrossPath side) issues) → (cycle : ℕ) → IsKept P2 cycle issues
    from_cross_paths alone cycle (CrossPath side) is = one-in-each (CrossPath side) (UsesCrossPath side)
        (cross-user side) issues (alone side) cycle
    from_cross_paths alone cycle _ is = absurd cc

    from_data_paths : ((side : Side) → AtMostOne (UsesDataPath side) issues) → (cycle : ℕ) → IsKept P3 cycle issues
    from_data_paths alone cycle (DataPath side) is = one-in-each (DataPath side) (UsesDataPath side) (data-user side)
        issues (alone side) cycle
    from_data_paths alone cycle _ is = absurd cc

    from_reads : ((cycle : ℕ) (reg : Reg) → sum_by (reads_in cycle reg) issues ≤ 4) → (cycle : ℕ)
        → IsKept P4 cycle issues
    from_reads few cycle (ReadsOf reg) is = omega (arith, few cycle reg, used-reads cycle reg issues)
    from_reads few cycle _ is = absurd cc

-- what keeps the packet rules keeps those of one cycle, in the manual's words
pub one-each-unit : (issues : Issues) → KeepsPacketRules issues → HasOneEachUnit issues
one-each-unit issues rules = (the-rules issues).units.0 (λ cycle r is. rules.enough cycle r)

pub one-each-data-path : (issues : Issues) → KeepsPacketRules issues → HasOneEachDataPath issues
one-each-data-path issues rules = (the-rules issues).data_paths.0 (λ cycle r is. rules.enough cycle r)

-- ---- one more

-- what is issued under a free number is added
pub used-added : (r : Resource) (cycle : ℕ) (issues : Issues) (i : ℕ) (p : Issue) → i < length issues
    → get_or issues i None ≡ None
    → used r cycle (set issues i (Some p)) ≡ used r cycle issues + uses_in cycle r (Some p)
used-added r cycle issues i p low free = grind (arith, free, sum_by-set (uses_in cycle r) issues i (Some p) None low)

-- in the other cycles there is enough as before
pub enough-added : (issues : Issues) (i : ℕ) (p : Issue) → i < length issues → get_or issues i None ≡ None
    → ((cycle : ℕ) → AreEnough cycle issues)
    → AreEnough p.cycle (set issues i (Some p)) → (cycle : ℕ) → AreEnough cycle (set issues i (Some p))
enough-added issues i p low free old here cycle r = elim (cases_eq p.cycle cycle) [
  | inl same ↦ subst (λ (c : ℕ). IsEnough r c (set issues i (Some p))) same (here r)
  | inr other ↦ omega (arith, old cycle r, used-added r cycle issues i p low free, counts-elsewhere r cycle p other)
]

-- where nothing is issued in a cycle, there is enough
pub none-used-in : (cycle : ℕ) (r : Resource) (issues : Issues)
    → ((i : ℕ) (p : Issue) → IsIssued issues i p → p.cycle ≡ cycle → ⊥) → used r cycle issues ≡ 0
none-used-in cycle r [] none = refl
none-used-in cycle r (None ∷ issues) none = omega
    (arith, sum_by-cons (uses_in cycle r) None issues, none-used-in cycle r issues (λ i p at. none (suc i) p at))
none-used-in cycle r (Some p ∷ issues) none =
    omega (
      arith,
      counts-elsewhere r cycle p (none 0 p refl),
      sum_by-cons (uses_in cycle r) (Some p) issues,
      none-used-in cycle r issues (λ i q at. none (suc i) q at),
    )

-- ---- alone

-- an instruction alone takes no more than there is
pub alone-fits : (r : Resource) (insn : Insn) (unit : FunctionalUnit) → uses r insn unit ≤ capacity_of r
alone-fits (OnUnit u) insn unit = (unit-user u).few (record { insn = insn; cycle = 0; unit = unit })
alone-fits (CrossPath side) insn unit = (cross-user side).few (record { insn = insn; cycle = 0; unit = unit })
alone-fits (DataPath side) insn unit = (data-user side).few (record { insn = insn; cycle = 0; unit = unit })
alone-fits (ReadsOf reg) insn unit = omega (arith, uses-reads reg insn unit, reads_count_at_most_three reg insn)
