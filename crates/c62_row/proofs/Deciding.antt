-- What a row tells is what the packet rules say, and it follows what is issued.
use Rattle.std.proofs.Common.{arith, ◌≡◌, ℕ, suc, ◌+◌, ◌<◌, ◌≤◌, [], ◌∷◌, Option}
use Rattle.std.proofs.Common.{Some, None, refl, sym, ap, ◌∙◌, inl, inr, subst}
use Rattle.std.specs.Prelude.{◌↔◌, slice_set, sum_by, MatchOption}
use Rattle.std.proofs.lemmas.Bool.{cases_lt}
use Rattle.std.proofs.lemmas.List.Sums.{sum_by-cons}
use Rattle.c62_rules.specs.declared.resource.CycleRule.{CycleRule}
use Rattle.c62_rules.specs.declared.resource.Resource.{Resource}
use Rattle.c62_rules.specs.PacketRules.{Issue, Issues, IsIssued}
use Rattle.c62_rules.specs.Resource.{rule_of, capacity_of, taken_by, place_of, rule_at, capacity_at}
use Rattle.c62_rules.specs.Capacity.{used, AreEnough, IsFirstBroken, rank_of}
use Rattle.c62_rules.proofs.Places.{place-few, rule-here, capacity-here, ranks-rise}
use Rattle.c62_row.specs.declared.row.Uses.{Uses}
use Rattle.c62_row.specs.declared.row.Row.{Row}
use Rattle.c62_row.specs.Fields.{EachPlace, times_at}
use Rattle.c62_row.proofs.Words.{zeros}
use Rattle.c62_row.specs.Row.{row_at, uses_at, AreUses, IsFirstOver, Tells, IsWith}
use Rattle.c62_row.specs.Row.{IsWithin}
use Rattle.c62_row.specs.Issued.{IsFree, taken_at, IsRowOf, RowDecides, RowFollows, RowIsLeft, RowStays, RowIsEmpty}
use Rattle.c62_row.proofs.Taken.{used-same, some-used, taken-now, taken-other, sum-added, sum-left, capacity-some}

-- ---- deciding

-- what is issued, with one instruction more
abbrev pub IsWithIssue : Issues → Issues → Issue → Type 0
IsWithIssue issues with_it p = (place : ℕ)
    → sum_by (taken_at p.cycle place) with_it ≡ sum_by (taken_at p.cycle place) issues + taken_at p.cycle place
    (Some p)

module _ (row : Row) (own : Uses) (issues with_it : Issues) (p : Issue) (more : IsWithIssue issues with_it p)
    (is : IsRowOf row p.cycle issues)
    (are : AreUses own p.insn p.unit) where
  -- what is taken of a place, with it
  both : (place : ℕ) → place < 48
      → sum_by (taken_at p.cycle place) with_it ≡ sum_by (taken_at p.cycle place) issues + uses_at own place
  both place low = omega (arith, more place, taken-now p place, are place low)

  -- it is enough exactly where the sum is below 8
  enough : (place : ℕ) → place < 48 → row_at row place + uses_at own place < 8
      → sum_by (taken_at p.cycle place) with_it ≤ capacity_at place
  enough place low fits = omega (arith, both place low, is place low, fits, capacity-some place)

  too-much : (place : ℕ) → place < 48 → 8 ≤ row_at row place + uses_at own place
      → capacity_at place < sum_by (taken_at p.cycle place) with_it
  too-much place low over = omega (arith, both place low, is place low, over, capacity-some place)

  of-resource : (r : Resource) → row_at row (place_of r) + uses_at own (place_of r) < 8
      → used r p.cycle with_it ≤ capacity_of r
  of-resource r fits =
      let low : place_of r < 48 = omega (arith, place-few r) in
      let is_enough = enough (place_of r) low fits in
      omega (arith, is_enough, used-same r p.cycle with_it, capacity-here r)

  first-broken : (place : ℕ) → IsFirstOver row own place → IsFirstBroken (rule_at place) p.cycle with_it
  first-broken place over = record {
    broken = record {
      resource = r;
      of_rule = sym (rule-here r) ∙ ap rule_at there;
      over = omega (
        arith,
        much,
        used-same r p.cycle with_it,
        capacity-here r,
        ap capacity_at there,
        ap
            (λ (k : ℕ). sum_by (taken_at p.cycle k) with_it) there,
      );
    };
    first = λ other less x under. of-resource x (over.first (place_of x) (before other less x under));
  }
    where
      much : capacity_at place < sum_by (taken_at p.cycle place) with_it
      much = too-much place over.within over.over

      found : (x : Resource) × (place_of x ≡ place)
      found = some-used p.cycle place with_it (omega (arith, much))

      r : Resource
      r = found.0

      there : place_of r ≡ place
      there = found.1

      before : (other : CycleRule) → rank_of other < rank_of (rule_at place) → (x : Resource) → rule_of x ≡ other
          → place_of x < place
      before other less x under = elim (cases_lt (place_of x) place) [
        | inl lt ↦ lt
        | inr past ↦
            let rises = ranks-rise place (place_of x) past in
            let same : rank_of (rule_at (place_of x)) ≡ rank_of other = ap rank_of (rule-here x ∙ under) in
            absurd (omega (arith, rises, same, less))
      ]

  decided : (told : Option CycleRule) → Tells row own told
      → MatchOption told (AreEnough p.cycle with_it) (λ rule. IsFirstBroken rule p.cycle with_it)
  decided None fits = λ r. of-resource r (fits (place_of r) (omega (arith, place-few r)))
  decided (Some rule) (place, over, same) = subst (λ (q : CycleRule). IsFirstBroken q p.cycle with_it) (sym same)
      (first-broken place over)

pub row_decides : (row : Row) (own : Uses) (told : Option CycleRule) (issues : Issues) (i : ℕ) (p : Issue)
    → RowDecides row own told issues i p
row_decides row own told issues i p free is are tells =
    decided row own issues (slice_set issues i (Some p)) p (λ place. sum-added issues i p p.cycle place free) is are
    told tells

-- the same of an instruction that stands before these
in-front : (issues : Issues) (p : Issue) → IsWithIssue issues (Some p ∷ issues) p
in-front issues p place = omega (arith, sum_by-cons (taken_at p.cycle place) (Some p) issues)

pub decides-cons : (row : Row) (own : Uses) (told : Option CycleRule) (issues : Issues) (p : Issue)
    → IsRowOf row p.cycle issues → AreUses own p.insn p.unit → Tells row own told
    → MatchOption told (AreEnough p.cycle (Some p ∷ issues)) (λ rule. IsFirstBroken rule p.cycle (Some p ∷ issues))
decides-cons row own told issues p is are tells = decided row own issues (Some p ∷ issues) p (in-front issues p) is are
    told tells

pub row_of_cons : (old new : Row) (own : Uses) (p : Issue) (issues : Issues) → IsRowOf old p.cycle issues
    → AreUses own p.insn p.unit → IsWith old new own
    → IsRowOf new p.cycle (Some p ∷ issues)
row_of_cons old new own p issues is are more place low =
    omega (arith, more place low, is place low, in-front issues p place, taken-now p place, are place low)

-- where of each resource there is enough, so there is of each place: at those past the last nothing is taken
pub enough-at : (cycle : ℕ) (issues : Issues) → AreEnough cycle issues → (place : ℕ)
    → sum_by (taken_at cycle place) issues ≤ capacity_at place
enough-at cycle issues enough place = elim (cases_lt 0 (sum_by (taken_at cycle place) issues)) [
  | inr none ↦ omega (arith, none)
  | inl some ↦
      let found = some-used cycle place issues some in
      let few = enough found.0 in
      omega (
        arith,
        few,
        used-same found.0 cycle issues,
        capacity-here found.0,
        ap capacity_at found.1,
        ap
            (λ (k : ℕ). sum_by (taken_at cycle k) issues) found.1,
      )
]

-- a row has room for an instruction exactly where there is enough in its cycle with it
pub room_is_enough : (row : Row) (issues : Issues) (i : ℕ) (p : Issue) → IsFree issues i → IsRowOf row p.cycle issues
    → EachPlace (λ place. row_at row place + times_at place (taken_by p.insn p.unit) < 8) ↔ AreEnough p.cycle
    (slice_set issues i (Some p))
room_is_enough row issues i p free is = (
  (λ room r. (let low : place_of r < 48 = omega (arith, place-few r) in
      omega (
        arith,
        room (place_of r) low,
        is (place_of r) low,
        with_it (place_of r),
        capacity-some (place_of r),
        used-same r p.cycle (slice_set issues i (Some p)),
        capacity-here r,
      ))),
  (λ enough place low. (let few = enough-at p.cycle (slice_set issues i (Some p)) enough place in
      omega (arith, few, is place low, with_it place, capacity-some place))),
)
  where
    with_it : (place : ℕ)
        → sum_by (taken_at p.cycle place) (slice_set issues i (Some p)) ≡ sum_by (taken_at p.cycle place) issues +
        times_at place (taken_by p.insn p.unit)
    with_it place = omega (arith, sum-added issues i p p.cycle place free, taken-now p place)

pub row_follows : (old new : Row) (own : Uses) (issues : Issues) (i : ℕ) (p : Issue) → RowFollows old new own issues i p
row_follows old new own issues i p free is are more place low =
    omega (
      arith,
      more place low,
      is place low,
      sum-added issues i p p.cycle place free,
      taken-now p place,
      are place
          low,
    )

-- ---- out again

pub row_within : (old : Row) (own : Uses) (issues : Issues) (i : ℕ) (p : Issue) → IsIssued issues i p
    → IsRowOf old p.cycle issues → AreUses own p.insn p.unit
    → ((place : ℕ) → place < 48 → sum_by (taken_at p.cycle place) issues ≤ capacity_at place) → IsWithin old own
row_within old own issues i p at is are few place low =
    omega (
      arith,
      is place low,
      sum-left issues i p p.cycle place at,
      taken-now p place,
      are place low,
      few place low,
      capacity-some place,
    )

pub row_is_left : (old new : Row) (own : Uses) (issues : Issues) (i : ℕ) (p : Issue) → RowIsLeft old new own issues i p
row_is_left old new own issues i p = record {
  within = λ at enough is are. row_within old own issues i p at is are
      (λ place low. enough-at p.cycle issues enough place);
  left = λ at enough is are less place low.
      (let few = enough-at p.cycle issues enough place in
      omega (
        arith,
        less place low,
        is place low,
        sum-left issues i p p.cycle place at,
        taken-now p place,
        are place
            low,
        few,
        capacity-some place,
      ));
}

pub row_stays : (row : Row) (cycle : ℕ) (issues : Issues) (i : ℕ) (p : Issue) → RowStays row cycle issues i p
row_stays row cycle issues i p = record {
  placed = λ free other is place low. omega
      (arith, is place low, sum-added issues i p cycle place free, taken-other p cycle place other);
  taken_out = λ at other is place low. omega
      (arith, is place low, sum-left issues i p cycle place at, taken-other p cycle place other);
}

none-taken : (cycle place : ℕ) (issues : Issues) → ((i : ℕ) (p : Issue) → IsIssued issues i p → p.cycle ≡ cycle → ⊥)
    → sum_by (taken_at cycle place) issues ≡ 0
none-taken cycle place [] none = refl
none-taken cycle place (None ∷ issues) none =
    omega (
      arith,
      sum_by-cons (taken_at cycle place) None issues,
      none-taken cycle place issues
          (λ i p at. none (suc i) p at),
    )
none-taken cycle place (Some p ∷ issues) none =
    omega (
      arith,
      sum_by-cons (taken_at cycle place) (Some p) issues,
      taken-other p cycle place (none 0 p refl),
      none-taken cycle place issues (λ i q at. none (suc i) q at),
    )

pub row_is_empty : (row : Row) (cycle : ℕ) (issues : Issues) → RowIsEmpty row cycle issues
row_is_empty row cycle issues unused none place low = omega
    (arith, unused place low, none-taken cycle place issues none, capacity-some place)

-- a row, where one is asked for that is not used
pub any_row : Row
any_row = record { words = 0 ∷ 0 ∷ 0 ∷ []; small = λ place low. omega (arith, zeros place low) }
