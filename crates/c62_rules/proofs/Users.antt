-- Where there is enough of a resource for one, two users are one.
use Rattle.std.proofs.Common.{arith, ◌≡◌, ℕ, suc, ◌+◌, ◌<◌, ◌≤◌, [], ◌∷◌, length, get_or, set, Option, Some, None, Bool}
use Rattle.std.proofs.Common.{true, false, refl, sym, ap, ◌∙◌, inl, inr}
use Rattle.std.specs.Prelude.{◌&&◌}
use Rattle.std.proofs.lemmas.Bool.{cases_eq, cases_lt, and_parts}
use Rattle.std.proofs.lemmas.Bool.Decides.{nat_tests}
use Rattle.std.proofs.lemmas.List.{get_or-set_other, length-set}
use Rattle.std.proofs.lemmas.List.Sums.{sum_by-cons, sum_by-set, get_or-le-sum_by}
use Rattle.c62_op.specs.declared.register.Side.{Side}
use Rattle.c62_op.specs.declared.register.Unit.{Unit as FunctionalUnit}
use Rattle.c62_op.specs.Takes.{same_side, same_unit}
use Rattle.c62_op.specs.Shape.{crosses_to, data_path_of}
use Rattle.c62_op.proofs.Registers.{same_unit-is, same_unit-refl, same_side-is, same_side-refl}
use Rattle.c62_insn.specs.Insn.{operands_of}
use Rattle.c62_rules.specs.declared.resource.Resource.{Resource}
use Rattle.c62_rules.specs.declared.resource.Resource.TheVariants.{OnUnit, CrossPath, DataPath}
use Rattle.c62_rules.specs.PacketRules.{Issue, Issues, IsIssued}
use Rattle.c62_rules.specs.Manual.{AtMostOne, UsesCrossPath, UsesDataPath}
use Rattle.c62_rules.specs.Capacity.{uses, uses_in, used}
use Rattle.c62_rules.proofs.Parts.{issued-within}
use Rattle.c62_rules.proofs.ResourceUses.{one, on_path, uses-unit, uses-cross, uses-data}

-- ---- at most one user

few-one : (b : Bool) → one b ≤ 1
few-one true = omega arith
few-one false = omega arith

one-true : (b : Bool) → 1 ≤ one b → b ≡ true
one-true true h = refl
one-true false h = absurd (omega (arith, h))

true-one : (b : Bool) → b ≡ true → 1 ≤ one b
true-one b h = rw h (omega arith)

-- a resource that an instruction takes once, where it is such, and else not
pub record IsUser (r : Resource) (Is : Issue → Type 0) : Type 0 where
  pub few : (p : Issue) → uses r p.insn p.unit ≤ 1
  pub such : (p : Issue) → 1 ≤ uses r p.insn p.unit → Is p
  pub one : (p : Issue) → Is p → 1 ≤ uses r p.insn p.unit

pub unit-user : (unit : FunctionalUnit) → IsUser (OnUnit unit) (λ p. p.unit ≡ unit)
unit-user unit = record {
  few = λ p. omega (arith, uses-unit unit p.insn p.unit, few-one (same_unit p.unit unit));
  such = λ p h. same_unit-is p.unit unit
      (one-true (same_unit p.unit unit) (omega (arith, uses-unit unit p.insn p.unit, h)));
  one = λ p h. omega (
    arith,
    uses-unit unit p.insn p.unit,
    true-one (same_unit p.unit unit)
        (rw h (same_unit-refl unit)),
  );
}

pub cross-user : (side : Side) → IsUser (CrossPath side) (UsesCrossPath side)
cross-user side = record {
  few = λ p. omega (
    arith,
    uses-cross side p.insn p.unit,
    few-one
        (crosses_to p.unit.side (operands_of p.insn) && same_side p.unit.side side),
  );
  such = λ p h.
      let both = and_parts (crosses_to p.unit.side (operands_of p.insn)) (same_side p.unit.side side)
      (one-true (crosses_to p.unit.side (operands_of p.insn) && same_side p.unit.side side)
      (omega (arith, uses-cross side p.insn p.unit, h))) in
      (same_side-is p.unit.side side both.1, both.0);
  one = λ p h.
      let same : same_side p.unit.side side ≡ true = rw h.0 (same_side-refl side) in
      let both : (crosses_to p.unit.side (operands_of p.insn) && same_side p.unit.side side) ≡ true = rw (h.1, same)
      refl in
      omega (
        arith,
        uses-cross side p.insn p.unit,
        true-one
            (crosses_to p.unit.side (operands_of p.insn) && same_side p.unit.side side) both,
      );
}

pub data-user : (side : Side) → IsUser (DataPath side) (UsesDataPath side)
data-user side = record {
  few = λ p. omega (arith, uses-data side p.insn p.unit, few_on (data_path_of (operands_of p.insn)));
  such = λ p h. such_on (data_path_of (operands_of p.insn)) (omega (arith, uses-data side p.insn p.unit, h));
  one = λ p h. omega (arith, uses-data side p.insn p.unit, one_on (data_path_of (operands_of p.insn)) h);
}
  where
    few_on : (path : Option Side) → on_path (DataPath side) path ≤ 1
    few_on None = omega arith
    few_on (Some other) = few-one (same_side other side)

    such_on : (path : Option Side) → 1 ≤ on_path (DataPath side) path → path ≡ Some side
    such_on None h = absurd (omega (arith, h))
    such_on (Some other) h = ap Some (same_side-is other side (one-true (same_side other side) h))

    one_on : (path : Option Side) → path ≡ Some side → 1 ≤ on_path (DataPath side) path
    one_on path h = rw h (true-one (same_side side side) (same_side-refl side))

-- what is issued in a cycle counts there, and nowhere else
pub counts-here : (r : Resource) (cycle : ℕ) (p : Issue) → p.cycle ≡ cycle
    → uses_in cycle r (Some p) ≡ uses r p.insn p.unit
counts-here r cycle p h = grind (arith, nat_tests)

pub counts-elsewhere : (r : Resource) (cycle : ℕ) (p : Issue) → (p.cycle ≡ cycle → ⊥) → uses_in cycle r (Some p) ≡ 0
counts-elsewhere r cycle p h = grind (arith, nat_tests)

module _ (r : Resource) (Is : Issue → Type 0) (user : IsUser r Is) (cycle : ℕ) where
  counted : (p : Issue) → 1 ≤ uses_in cycle r (Some p) → (p.cycle ≡ cycle) × (1 ≤ uses r p.insn p.unit)
  counted p h = elim (cases_eq p.cycle cycle) [
    | inl here ↦ (here, omega (arith, h, counts-here r cycle p here))
    | inr other ↦ absurd (omega (arith, h, counts-elsewhere r cycle p other))
  ]

  few_in : (p : Issue) → uses_in cycle r (Some p) ≤ 1
  few_in p = elim (cases_eq p.cycle cycle) [
    | inl here ↦ omega (arith, counts-here r cycle p here, user.few p)
    | inr other ↦ omega (arith, counts-elsewhere r cycle p other)
  ]

  -- where there is enough for one, two users are one
  pub enough-one : (issues : Issues) → used r cycle issues ≤ 1 → (i j : ℕ) (p q : Issue) → IsIssued issues i p
      → IsIssued issues j q
      → p.cycle ≡ cycle → q.cycle ≡ cycle → Is p → Is q → i ≡ j
  enough-one issues few i j p q at_p at_q now_p now_q is_p is_q = elim (cases_eq i j) [
    | inl same ↦ same
    | inr apart ↦
        let without : Issues = set issues i None in
        let below : i < length issues = issued-within issues i p at_p in
        let beside : j < length without = omega (arith, issued-within issues j q at_q, length-set issues i None) in
        let there : get_or without j None ≡ Some q = get_or-set_other issues i j None None (λ e. apart (sym e))
        ∙ at_q in
        let split : used r cycle without + uses_in cycle r (get_or issues i None) ≡ used r cycle issues + 0 = sum_by-set
        (uses_in cycle r) issues i None None below in
        let other : uses_in cycle r (get_or without j None) ≤ used r cycle without = get_or-le-sum_by (uses_in cycle r)
        without j None beside in
        let by_p : uses_in cycle r (get_or issues i None) ≡ uses r p.insn p.unit = ap (uses_in cycle r) at_p
        ∙ counts-here r cycle p now_p in
        let by_q : uses_in cycle r (get_or without j None) ≡ uses r q.insn q.unit = ap (uses_in cycle r) there
        ∙ counts-here r cycle q now_q in
        absurd (omega (arith, few, split, other, by_p, by_q, user.one p is_p, user.one q is_q))
  ]

  none-used : (issues : Issues) → ((i : ℕ) (p : Issue) → IsIssued issues i p → 1 ≤ uses_in cycle r (Some p) → ⊥)
      → used r cycle issues ≡ 0
  none-used [] none = refl
  none-used (None ∷ issues) none = omega
      (arith, sum_by-cons (uses_in cycle r) None issues, none-used issues (λ i p at. none (suc i) p at))
  none-used (Some p ∷ issues) none = elim (cases_lt 0 (uses_in cycle r (Some p))) [
    | inl some ↦ absurd (none 0 p refl some)
    | inr idle ↦ omega (
      arith,
      idle,
      sum_by-cons (uses_in cycle r) (Some p) issues,
      none-used issues
          (λ i q at. none (suc i) q at),
    )
  ]

  -- and where two users always are one, there is enough
  pub one-enough : (issues : Issues)
      → ((i j : ℕ) (p q : Issue) → IsIssued issues i p → IsIssued issues j q → p.cycle ≡ cycle → q.cycle ≡ cycle
      → Is p → Is q → i ≡ j)
      → used r cycle issues ≤ 1
  one-enough [] alone = omega arith
  one-enough (None ∷ issues) alone =
      omega (
        arith,
        sum_by-cons (uses_in cycle r) None issues,
        one-enough issues (λ i j p q at_p at_q now_p now_q is_p is_q.
            (let e : suc i ≡ suc j = alone (suc i) (suc j) p q at_p at_q now_p now_q is_p is_q in omega
            (arith, e))),
      )
  one-enough (Some p ∷ issues) alone =
      let later : used r cycle issues ≤ 1 =
      one-enough issues (λ i j q s at_q at_s now_q now_s is_q is_s.
      (let e : suc i ≡ suc j = alone (suc i) (suc j) q s at_q at_s now_q now_s is_q is_s in omega (arith, e)))
      in
      let whole = sum_by-cons (uses_in cycle r) (Some p) issues in
      elim (cases_lt 0 (uses_in cycle r (Some p))) [
        | inl some ↦
            let own = counted p some in
            let rest : used r cycle issues ≡ 0 = none-used issues (λ i q at counts.
            let theirs = counted q counts in
            let e : 0 ≡ suc i = alone 0 (suc i) p q refl at own.0 theirs.0 (user.such p own.1) (user.such q theirs.1) in
            omega (arith, e)) in
            omega (arith, whole, rest, few_in p)
        | inr idle ↦ omega (arith, whole, later, idle)
      ]

-- the same of all cycles
pub at-most-one : (r : Resource) (Is : Issue → Type 0) → IsUser r Is → (issues : Issues)
    → ((cycle : ℕ) → used r cycle issues ≤ 1) → AtMostOne Is issues
at-most-one r Is user issues enough i j p q at_p at_q same is_p is_q =
    enough-one r Is user q.cycle issues (enough q.cycle) i j p q at_p at_q same refl is_p is_q

pub one-in-each : (r : Resource) (Is : Issue → Type 0) → IsUser r Is → (issues : Issues) → AtMostOne Is issues
    → (cycle : ℕ)
    → used r cycle issues ≤ 1
one-in-each r Is user issues alone cycle =
    one-enough r Is user cycle issues (λ i j p q at_p at_q now_p now_q is_p is_q. alone i j p q at_p at_q (now_p
    ∙ sym now_q) is_p is_q)
