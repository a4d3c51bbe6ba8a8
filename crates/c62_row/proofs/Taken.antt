-- What issued instructions take of a place is what they take of its resource.
use Rattle.std.proofs.Common.{arith, ◌≡◌, ℕ, ◌+◌, ◌<◌, ◌≤◌, List, [], ◌∷◌, Option}
use Rattle.std.proofs.Common.{Some, None, Bool, cond, refl, ap, inl, inr}
use Rattle.std.specs.Prelude.{◌==◌, if◌then◌else◌, slice_set, sum_by, count_by}
use Rattle.std.proofs.lemmas.Bool.{cases_eq, cases_lt}
use Rattle.std.proofs.lemmas.Bool.Decides.{nat_tests}
use Rattle.std.proofs.lemmas.List.Sums.{sum_by-cons, sum_by-set}
use Rattle.c62_rules.specs.declared.resource.Resource.{Resource}
use Rattle.c62_rules.specs.PacketRules.{Issue, Issues, IsIssued}
use Rattle.c62_rules.specs.Resource.{taken_by, same_resource, place_of, capacity_at}
use Rattle.c62_rules.specs.Capacity.{uses_in, used}
use Rattle.c62_rules.proofs.Parts.{issued-within}
use Rattle.c62_rules.proofs.Places.{same-place}
use Rattle.c62_row.specs.Fields.{times_at}
use Rattle.c62_row.specs.Issued.{IsFree, taken_at}

-- ---- places and resources

same-test : (r x : Resource) → cond {A = ℕ} (place_of x == place_of r) 1 0 ≡ cond (same_resource x r) 1 0
same-test r x = ap (λ (b : Bool). cond {A = ℕ} b 1 0) (same-place x r)

times-same : (r : Resource) (taken : List Resource)
    → times_at (place_of r) taken ≡ count_by (λ x. same_resource x r) taken
times-same r [] = refl
times-same r (x ∷ taken) =
    omega (
      arith,
      sum_by-cons (λ (y : Resource). cond {A = ℕ} (place_of y == place_of r) 1 0) x taken,
      sum_by-cons (λ (y : Resource). cond {A = ℕ} (same_resource y r) 1 0) x taken,
      same-test r x,
      times-same r taken,
    )

taken-same : (r : Resource) (cycle : ℕ) (o : Option Issue) → taken_at cycle (place_of r) o ≡ uses_in cycle r o
taken-same r cycle None = refl
taken-same r cycle (Some p) = ap (λ (n : ℕ). if p.cycle == cycle then n else 0) (times-same r (taken_by p.insn p.unit))

-- what is taken of a place is what is taken of its resource
pub used-same : (r : Resource) (cycle : ℕ) (issues : Issues)
    → sum_by (taken_at cycle (place_of r)) issues ≡ used r cycle issues
used-same r cycle [] = refl
used-same r cycle (o ∷ issues) =
    omega (
      arith,
      sum_by-cons (taken_at cycle (place_of r)) o issues,
      sum_by-cons (uses_in cycle r) o issues,
      taken-same
          r cycle o,
      used-same r cycle issues,
    )

-- of what is taken there is a resource at the place
some-taken : (place : ℕ) (taken : List Resource) → 0 < times_at place taken → (r : Resource) × (place_of r ≡ place)
some-taken place [] some = absurd (omega (arith, some))
some-taken place (x ∷ taken) some = elim (cases_eq (place_of x) place) [
  | inl here ↦ (x, here)
  | inr other ↦
      let none : cond {A = ℕ} (place_of x == place) 1 0 ≡ 0 = grind (arith, nat_tests) in
      some-taken place taken
      (omega (
        arith,
        some,
        none,
        sum_by-cons (λ (y : Resource). cond {A = ℕ} (place_of y == place) 1 0) x
            taken,
      ))
]

some-in : (cycle place : ℕ) (o : Option Issue) → 0 < taken_at cycle place o → (r : Resource) × (place_of r ≡ place)
some-in cycle place None some = absurd (omega (arith, some))
some-in cycle place (Some p) some = elim (cases_eq p.cycle cycle) [
  | inl here ↦ (let all : taken_at cycle place (Some p) ≡ times_at place (taken_by p.insn p.unit) = grind
      (arith, nat_tests) in
      some-taken place (taken_by p.insn p.unit) (omega (arith, some, all)))
  | inr other ↦ (let none : taken_at cycle place (Some p) ≡ 0 = grind (arith, nat_tests) in absurd
      (omega (arith, some, none)))
]

pub some-used : (cycle place : ℕ) (issues : Issues) → 0 < sum_by (taken_at cycle place) issues → (r : Resource)
    × (place_of r ≡ place)
some-used cycle place [] some = absurd (omega (arith, some))
some-used cycle place (o ∷ issues) some = elim (cases_lt 0 (taken_at cycle place o)) [
  | inl own ↦ some-in cycle place o own
  | inr none ↦ some-used cycle place issues (omega (arith, some, none, sum_by-cons (taken_at cycle place) o issues))
]

-- ---- one more, and one fewer

pub taken-now : (p : Issue) (place : ℕ) → taken_at p.cycle place (Some p) ≡ times_at place (taken_by p.insn p.unit)
taken-now p place = grind (arith, nat_tests)

pub taken-other : (p : Issue) (cycle place : ℕ) → (p.cycle ≡ cycle → ⊥) → taken_at cycle place (Some p) ≡ 0
taken-other p cycle place other = grind (arith, nat_tests)

pub sum-added : (issues : Issues) (i : ℕ) (p : Issue) (cycle place : ℕ) → IsFree issues i
    → sum_by (taken_at cycle place) (slice_set issues i (Some p)) ≡ sum_by (taken_at cycle place) issues + taken_at
    cycle place (Some p)
sum-added issues i p cycle place free = grind
    (arith, free.1, sum_by-set (taken_at cycle place) issues i (Some p) None free.0)

pub sum-left : (issues : Issues) (i : ℕ) (p : Issue) (cycle place : ℕ) → IsIssued issues i p
    → sum_by (taken_at cycle place) (slice_set issues i None) + taken_at cycle place (Some p) ≡ sum_by
    (taken_at cycle place) issues
sum-left issues i p cycle place is = grind
    (arith, is, sum_by-set (taken_at cycle place) issues i None None (issued-within issues i p is))

pub capacity-some : (place : ℕ) → capacity_at place ≤ 7
capacity-some place = grind (arith, nat_tests)
