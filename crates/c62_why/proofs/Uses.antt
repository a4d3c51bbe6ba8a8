-- What instructions take of a resource.
use Rattle.std.proofs.Common.{arith, ◌≡◌, ℕ, ◌+◌, ◌<◌, ◌≤◌, ◌==◌, Bool, List, [], ◌∷◌, ◌++◌, length, Option, Some, None}
use Rattle.std.proofs.Common.{refl, sym, ap, cond, inl, inr, ◌∙◌, get_or, drop, suc, add-one, drop-cons}
use Rattle.std.specs.Prelude.{count_by, find, if◌then◌else◌}
use Rattle.std.proofs.lemmas.Bool.{cases_eq}
use Rattle.std.proofs.lemmas.Bool.Decides.{nat_tests}
use Rattle.std.proofs.lemmas.List.{drop_all}
use Rattle.std.proofs.lemmas.List.Sums.{sum_by-cons}
use Rattle.c62_op.specs.declared.register.Unit.{Unit as FunctionalUnit}
use Rattle.c62_insn.specs.declared.insn.Insn.{Insn}
use Rattle.c62_rules.specs.declared.resource.Resource.{Resource}
use Rattle.c62_rules.specs.declared.resource.Resource.TheVariants.{OnUnit, CrossPath, DataPath, ReadsOf}
use Rattle.c62_rules.specs.Resource.{capacity_of, place_of, same_resource, taken_by}
use Rattle.c62_rules.specs.Capacity.{uses, uses_in, used}
use Rattle.c62_rules.proofs.Places.{same-place}
use Rattle.c62_rules.proofs.Capacities.{alone-fits}
use Rattle.c62_packet.specs.declared.placed.Placed.{Placed}
use Rattle.c62_packet.specs.Packed.{issue_of, issued}
use Rattle.c62_why.specs.Taken.{times, uses_at, holds}

same_test : (r x : Resource) → cond {A = ℕ} (place_of x == place_of r) 1 0 ≡ cond (same_resource x r) 1 0
same_test r x = ap (λ (b : Bool). cond {A = ℕ} b 1 0) (same-place x r)

-- a resource has a place of its own
times_same : (r : Resource) (taken : List Resource) → times (place_of r) taken ≡ count_by (λ x. same_resource x r) taken
times_same r [] = refl
times_same r (x ∷ taken) =
    omega (
      arith,
      sum_by-cons (λ (y : Resource). cond {A = ℕ} (place_of y == place_of r) 1 0) x taken,
      sum_by-cons (λ (y : Resource). cond {A = ℕ} (same_resource y r) 1 0) x taken,
      same_test r x,
      times_same r taken,
    )

pub times_are_uses : (r : Resource) (insn : Insn) (unit : FunctionalUnit)
    → times (place_of r) (taken_by insn unit) ≡ uses r insn unit
times_are_uses r insn unit = times_same r (taken_by insn unit)

-- one more instruction
pub used_cons : (r : Resource) (cycle : ℕ) (p : Placed) (placed : List Placed)
    → used r cycle (issued (p ∷ placed)) ≡ uses_at r cycle p + used r cycle (issued placed)
used_cons r cycle p placed = sum_by-cons (uses_in cycle r) (Some (issue_of p)) (issued placed)

-- of the rest of the instructions one less
pub used_next : (r : Resource) (cycle : ℕ) (placed : List Placed) (i : ℕ) (p : Placed) (sum : ℕ) → i < length placed
    → p ≡ get_or placed i p
    → sum + used r cycle (issued (drop i placed)) ≡ used r cycle (issued placed)
    → sum + uses_at r cycle p + used r cycle (issued (drop (i + 1) placed)) ≡ used r cycle (issued placed)
used_next r cycle placed i p sum within at so =
    let cut : drop i placed ≡ p ∷ drop (i + 1) placed = rw add-one (drop-cons placed i p within
    ∙ ap (λ q. q ∷ drop (suc i) placed) (sym at)) in
    let parts : used r cycle (issued (drop i placed)) ≡ uses_at r cycle p + used r cycle (issued (drop (i + 1) placed))
    =
    ap (λ rest. used r cycle (issued rest)) cut ∙ used_cons r cycle p (drop (i + 1) placed) in
    omega (arith, so, parts)

pub used_all : (r : Resource) (cycle : ℕ) (placed : List Placed) (i sum : ℕ) → length placed ≤ i
    → sum + used r cycle (issued (drop i placed)) ≡ used r cycle (issued placed) → sum ≡ used r cycle (issued placed)
used_all r cycle placed i sum end so =
    let none : drop i placed ≡ [] = drop_all i placed end in
    let nothing : used r cycle (issued (drop i placed)) ≡ 0 = ap (λ rest. used r cycle (issued rest)) none in
    omega (arith, so, nothing)

-- where nothing takes of it, none of it is used
pub unused : (r : Resource) (cycle : ℕ) (placed : List Placed) → find (holds r cycle) placed ≡ None
    → used r cycle (issued placed) ≡ 0
unused r cycle [] none = refl
unused r cycle (p ∷ placed) none = elim (cases_eq (uses_at r cycle p) 0) [
  | inl nothing ↦ (let rest : find (holds r cycle) placed ≡ None = grind (arith, nat_tests, none) in omega
      (arith, used_cons r cycle p placed, nothing, unused r cycle placed rest))
  | inr some ↦ absurd (grind (arith, nat_tests, none, some))
]

-- of what there is too little of, somebody takes
pub somebody : (r : Resource) (cycle : ℕ) (placed : List Placed) (insn : Insn) (unit : FunctionalUnit)
    → capacity_of r < used r cycle (issued placed) + uses r insn unit → find (holds r cycle) placed ≡ None → ⊥
somebody r cycle placed insn unit over none = omega (arith, over, unused r cycle placed none, alone-fits r insn unit)
