-- What the instructions of a packet take of their cycle.
use Rattle.std.proofs.Common.{arith, ◌≡◌, ℕ, zero, suc, ◌+◌, ◌<◌, ◌≤◌, List, [], ◌∷◌, ◌++◌, length, map, Some, true}
use Rattle.std.proofs.Common.{false, refl, sym, ap, ◌∙◌, subst, inl, inr}
use Rattle.std.specs.Prelude.{nat_lt, slice_index, sum_by, All}
use Rattle.std.proofs.lemmas.Bool.{cases_eq, cases_lt, lt-ltb}
use Rattle.std.proofs.lemmas.Bool.Decides.{nat_tests}
use Rattle.std.specs.List.{insert, position_or_len}
use Rattle.std.specs.List.Sorted.{IsStrictlyIncreasing}
use Rattle.std.proofs.lemmas.List.{map-append}
use Rattle.std.proofs.lemmas.List.Elements.{All-head, All-tail}
use Rattle.std.proofs.lemmas.List.Sums.{sum_by-cons, sum_by-append}
use Rattle.c62_op.specs.declared.register.Unit.{Unit as FunctionalUnit}
use Rattle.c62_op.specs.Units.{index_of}
use Rattle.c62_op.proofs.UnitOrder.{index_of-below}
use Rattle.c62_insn.specs.declared.insn.Insn.{Insn}
use Rattle.c62_rules.specs.Resource.{taken_by, capacity_at}
use Rattle.c62_rules.specs.Capacity.{AreEnough}
use Rattle.c62_row.specs.declared.row.Uses.{Uses}
use Rattle.c62_row.specs.declared.row.Row.{Row as Taken}
use Rattle.c62_row.specs.Fields.{times_at}
use Rattle.c62_row.specs.Row.{AreUses, IsWith}
use Rattle.c62_row.specs.Issued.{taken_at, IsRowOf}
use Rattle.c62_row.proofs.Deciding.{enough-at}
use Rattle.c62_packet.specs.declared.placed.Placed.{Placed}
use Rattle.c62_packet.specs.Packed.{issue_of, issued}
use Rattle.c62_rows.specs.Rows.{stands_behind}

taken-here : (p : Placed) (place : ℕ) → p.cycle ≡ 0
    → taken_at 0 place (Some (issue_of p)) ≡ times_at place (taken_by p.insn p.unit)
taken-here p place here = grind (arith, nat_tests)

pub row_of_push : (old new : Taken) (own : Uses) (p : Placed) (insns : List Placed) → p.cycle ≡ 0
    → IsRowOf old 0 (issued insns)
    → AreUses own p.insn p.unit → IsWith old new own → IsRowOf new 0 (issued (insns ++ p ∷ []))
row_of_push old new own p insns here is are more place low =
    omega (
      arith,
      more place low,
      is place low,
      are place low,
      taken-here p place here,
      ap (sum_by (taken_at 0 place)) (map-append (λ (q : Placed). Some (issue_of q)) insns (p ∷ [])),
      sum_by-append (taken_at 0 place) (issued insns) (Some (issue_of p) ∷ []),
      sum_by-cons (taken_at 0 place) (Some (issue_of p)) [],
    )

-- ---- eight at most

-- an instruction takes its unit
own-unit : (insn : Insn) (unit : FunctionalUnit) → 1 ≤ times_at (index_of unit) (taken_by insn unit)
own-unit insn unit = grind (arith, nat_tests)

-- the sum of these at the first places
abbrev up-to : (ℕ → ℕ) → ℕ → ℕ
up-to f zero = 0
up-to f (suc n) = up-to f n + f n

one-of : (f : ℕ → ℕ) (n k : ℕ) → k < n → f k ≤ up-to f n
one-of f zero k low = absurd (omega (arith, low))
one-of f (suc n) k low = elim (cases_eq k n) [
  | inl here ↦ omega (arith, ap f here)
  | inr before ↦
      let less : k < n = omega (arith, low, before) in
      omega (arith, one-of f n k less)
]

both-up-to : (f g h : ℕ → ℕ) (n : ℕ) → ((k : ℕ) → f k ≡ g k + h k) → up-to f n ≡ up-to g n + up-to h n
both-up-to f g h zero same = refl
both-up-to f g h (suc n) same = omega (arith, same n, both-up-to f g h n same)

few-up-to : (f : ℕ → ℕ) (n : ℕ) → ((k : ℕ) → k < n → f k ≤ 1) → up-to f n ≤ n
few-up-to f zero few = omega arith
few-up-to f (suc n) few =
    let rest = few-up-to f n (λ k low. few k (omega (arith, low))) in
    omega (arith, rest, few n (omega arith))

on-units : (placed : List Placed) → All (λ p. p.cycle ≡ 0) placed
    → length placed ≤ up-to (λ place. sum_by (taken_at 0 place) (issued placed)) 8
on-units [] none = omega arith
on-units (p ∷ placed) here =
    let own : 1 ≤ up-to (λ place. taken_at 0 place (Some (issue_of p))) 8 = omega (
      arith,
      own-unit p.insn p.unit,
      taken-here p (index_of p.unit) (All-head (λ (q : Placed). q.cycle ≡ 0) p placed here),
      one-of (λ place. taken_at 0 place (Some (issue_of p))) 8 (index_of p.unit) (index_of-below p.unit),
    ) in
    omega (
      arith,
      own,
      on-units placed (All-tail (λ (q : Placed). q.cycle ≡ 0) p placed here),
      both-up-to (λ place. sum_by (taken_at 0 place) (issued (p ∷ placed)))
          (λ place. taken_at 0 place (Some (issue_of p)))
          (λ place. sum_by (taken_at 0 place) (issued placed)) 8
          (λ place. sum_by-cons (taken_at 0 place) (Some (issue_of p)) (issued placed)),
    )

one-unit : (place : ℕ) → place < 8 → capacity_at place ≡ 1
one-unit place low = grind (arith, nat_tests)

pub eight_at_most : (placed : List Placed) → All (λ p. p.cycle ≡ 0) placed → AreEnough 0 (issued placed)
    → length placed ≤ 8
eight_at_most placed here enough =
    omega (
      arith,
      on-units placed here,
      few-up-to (λ place. sum_by (taken_at 0 place) (issued placed)) 8
          (λ place low. omega (arith, enough-at 0 (issued placed) enough place, one-unit place low)),
    )

-- ---- one on each unit, in their order

-- none of these stands on the unit of this number
abbrev pub NoneOn : ℕ → List Placed → Type 0
NoneOn place [] = Unit {0}
NoneOn place (p ∷ placed) = (index_of p.unit ≡ place → ⊥) × NoneOn place placed

none-taken : (place : ℕ) (placed : List Placed) → All (λ p. p.cycle ≡ 0) placed
    → sum_by (taken_at 0 place) (issued placed) ≡ 0 → NoneOn place placed
none-taken place [] here none = tt
none-taken place (p ∷ placed) here none = (
  (λ same. (let own : 1 ≤ times_at place (taken_by p.insn p.unit) = subst
      (λ (k : ℕ). 1 ≤ times_at k (taken_by p.insn p.unit)) same (own-unit p.insn p.unit) in
      absurd (omega (
        arith,
        own,
        none,
        sum_by-cons (taken_at 0 place) (Some (issue_of p)) (issued placed),
        taken-here p place (All-head (λ (q : Placed). q.cycle ≡ 0) p placed here),
      )))),
  none-taken place placed (All-tail (λ (q : Placed). q.cycle ≡ 0) p placed here)
      (omega (arith, none, sum_by-cons (taken_at 0 place) (Some (issue_of p)) (issued placed))),
)

pub none_on_unit : (p : Placed) (placed : List Placed) → p.cycle ≡ 0 → All (λ q. q.cycle ≡ 0) placed
    → AreEnough 0 (issued (p ∷ placed))
    → NoneOn (index_of p.unit) placed
none_on_unit p placed begun here enough =
    let place : ℕ = index_of p.unit in
    none-taken place placed here (omega (
      arith,
      enough-at 0 (issued (p ∷ placed)) enough place,
      one-unit place (index_of-below p.unit),
      own-unit p.insn p.unit,
      taken-here p place begun,
      sum_by-cons (taken_at 0 place) (Some (issue_of p)) (issued placed),
    ))

abbrev IsBelowFirst : ℕ → List Placed → Type 0
IsBelowFirst place [] = Unit {0}
IsBelowFirst place (q ∷ placed) = place < index_of q.unit

-- each stands on a unit below that of the next
abbrev pub Rises : List Placed → Type 0
Rises [] = Unit {0}
Rises (p ∷ placed) = IsBelowFirst (index_of p.unit) placed × Rises placed

not-below : (a b : ℕ) → b ≤ a → nat_lt a b ≡ false
not-below a b le = grind (arith, nat_tests)

-- where an instruction goes among these
insert-first : (p q : Placed) (placed : List Placed) → nat_lt (index_of p.unit) (index_of q.unit) ≡ true
    → insert (q ∷ placed) (position_or_len (stands_behind p) (q ∷ placed)) p ≡ p ∷ q ∷ placed
insert-first p q placed first = rw first refl

insert-next : (p q : Placed) (placed : List Placed) → nat_lt (index_of p.unit) (index_of q.unit) ≡ false
    → insert (q ∷ placed) (position_or_len (stands_behind p) (q ∷ placed)) p ≡ q ∷ insert placed
    (position_or_len (stands_behind p) placed) p
insert-next p q placed past =
    let after : 1 + position_or_len (stands_behind p) placed ≡ suc (position_or_len (stands_behind p) placed) = omega
    arith in
    rw past (ap (λ (k : ℕ). insert (q ∷ placed) k p) after)

put-behind : (p q : Placed) (placed : List Placed) → index_of q.unit < index_of p.unit
    → IsBelowFirst (index_of q.unit) placed
    → IsBelowFirst (index_of q.unit) (insert placed (position_or_len (stands_behind p) placed) p)
put-behind p q [] less below = less
put-behind p q (r ∷ placed) less below = elim (cases_lt (index_of p.unit) (index_of r.unit)) [
  | inl first ↦
      subst (IsBelowFirst (index_of q.unit))
      (sym (insert-first p r placed (lt-ltb (index_of p.unit) (index_of r.unit) first))) less
  | inr past ↦
      subst (IsBelowFirst (index_of q.unit))
      (sym (insert-next p r placed (not-below (index_of p.unit) (index_of r.unit) past))) below
]

by-order : (a b : ℕ) → b ≤ a → (b ≡ a → ⊥) → b < a
by-order a b le other = elim (cases_eq b a) [
  | inl same ↦ absurd (other same)
  | inr differ ↦ omega (arith, le, differ)
]

pub rises_with : (p : Placed) (placed : List Placed) → Rises placed → NoneOn (index_of p.unit) placed
    → Rises (insert placed (position_or_len (stands_behind p) placed) p)
rises_with p [] rises none = (tt, tt)
rises_with p (q ∷ placed) rises none = elim (cases_lt (index_of p.unit) (index_of q.unit)) [
  | inl first ↦ subst Rises (sym (insert-first p q placed (lt-ltb (index_of p.unit) (index_of q.unit) first)))
      (first, rises)
  | inr past ↦
      let less : index_of q.unit < index_of p.unit = by-order (index_of p.unit) (index_of q.unit) past none.0 in
      subst Rises (sym (insert-next p q placed (not-below (index_of p.unit) (index_of q.unit) past)))
      (put-behind p q placed less rises.0, rises_with p placed rises.1 none.1)
]

next-place : (x : ℕ) (xs : List ℕ) (k : ℕ) → slice_index (x ∷ xs) (k + 1) ≡ slice_index xs k
next-place x xs k =
    let after : k + 1 ≡ suc k = omega arith in
    rw after refl

abbrev indexes : List Placed → List ℕ
indexes placed = map (λ p. index_of p.unit) placed

pub rises_strictly : (placed : List Placed) → Rises placed → IsStrictlyIncreasing (map (λ p. index_of p.unit) placed)
rises_strictly [] rises k low = absurd (omega (arith, low))
rises_strictly (p ∷ []) rises k low = absurd (omega (arith, low))
rises_strictly (p ∷ q ∷ placed) rises zero low = rises.0
rises_strictly (p ∷ q ∷ placed) rises (suc k) low =
    let after : suc k ≡ k + 1 = omega arith in
    let less = rises_strictly (q ∷ placed) rises.1 k (omega (arith, low)) in
    let one = ap (slice_index (indexes (p ∷ q ∷ placed))) after
    ∙ next-place (index_of p.unit) (indexes (q ∷ placed)) k in
    let other = next-place (index_of p.unit) (indexes (q ∷ placed)) (suc k) in
    let same = ap (slice_index (indexes (q ∷ placed))) after in
    omega (arith, less, one, other, same)

pub strictly_rises : (placed : List Placed) → IsStrictlyIncreasing (map (λ p. index_of p.unit) placed) → Rises placed
strictly_rises [] rises = tt
strictly_rises (p ∷ []) rises = (tt, tt)
strictly_rises (p ∷ q ∷ placed) rises = (
  rises 0 (omega arith),
  strictly_rises (q ∷ placed) (λ k low.
      (let less = rises (k + 1) (omega (arith, low)) in
      omega (
        arith,
        less,
        next-place (index_of p.unit) (indexes (q ∷ placed)) k,
        next-place (index_of p.unit)
            (indexes (q ∷ placed)) (k + 1),
      ))),
)
