-- Which of the placed numbers makes way: the search, and that there is one answer.
use Rattle.std.proofs.Common.{◌≡◌, ℕ, ◌+◌, ◌*◌, ◌<◌, ◌≤◌, List, length, Option, Some, None, inl, inr, sym, refl, ◌∙◌}
use Rattle.std.proofs.Common.{subst, arith}
use Rattle.std.specs.Prelude.{MatchOption}
use Rattle.std.proofs.lemmas.Bool.{cases_eq, cases_lt}
use Rattle.std.proofs.lemmas.List.{get_or_past}
use Rattle.std.proofs.lemmas.Option.{none-some}
use Rattle.c62_op.specs.Units.{index_of}
use Rattle.c62_op.specs.declared.register.Unit.{Unit as FunctionalUnit}
use Rattle.c62_op.proofs.UnitOrder.{same_index, index_of-below}
use Rattle.c62_insn.specs.declared.insn.Insn.{Insn}
use Rattle.c62_depend.specs.Height.{height}
use Rattle.c62_sheet.specs.declared.entry.Spot.{Spot}
use Rattle.c62_sheet.specs.Lawful.{Spots, IsAt, IsLawful}
use Rattle.c62_sheet.specs.Least.{IsEarly}
use Rattle.c62_sheet.specs.Victim.{IsInTheWay, MakesWayBefore, IsVictim, HasNoVictim, IsFirstOf, IsFirstBefore}

-- a placed number is one of the block
pub at_in : (block : List Insn) (set : Spots) (k : ℕ) (t : Spot) → length set ≡ length block → IsAt set k t
    → k < length block
at_in block set k t sized at = elim (cases_lt k (length block)) [
  | inl lt ↦ lt
  | inr le ↦ absurd (none-some t (sym (get_or_past set k None (rw sized le)) ∙ at))
]

-- ---- the search

-- of two, one makes way before the other
pub way_other : (block : List Insn) (b q : ℕ) → (MakesWayBefore block b q → ⊥) → MakesWayBefore block q b
way_other block b q out = elim (cases_lt (height block q) (height block b)) [
  | inl lower ↦ inl lower
  | inr high ↦ elim (cases_lt (height block b) (height block q)) [
    | inl higher ↦ absurd (out (inl higher))
    | inr low ↦
        let same : height block b ≡ height block q = omega (arith, high, low) in
        elim (cases_lt b q) [
          | inl less ↦ inr (sym same, omega (arith, less))
          | inr more ↦ absurd (out (inr (same, more)))
        ]
  ]
]

way_past : (block : List Insn) (q b k : ℕ) → MakesWayBefore block q b → MakesWayBefore block b k
    → MakesWayBefore block q k
way_past block q b k (inl x) (inl y) = inl (omega (arith, x, y))
way_past block q b k (inl x) (inr y) = inl (omega (arith, x, y.0))
way_past block q b k (inr x) (inl y) = inl (omega (arith, x.0, y))
way_past block q b k (inr x) (inr y) = inr (x.0 ∙ y.0, omega (arith, x.1, y.1))

at_spot : (set : Spots) (k cycle : ℕ) (unit : FunctionalUnit) (s : Spot) → IsAt set k s → s.cycle ≡ cycle
    → s.unit ≡ unit
    → IsAt set k (record { cycle = cycle; unit = unit })
at_spot set k cycle unit s at c u =
    subst (λ (x : FunctionalUnit). IsAt set k (record { cycle = cycle; unit = x })) u
    (subst (λ (x : ℕ). IsAt set k (record { cycle = x; unit = s.unit })) c at)

-- number q stands on this unit, if one does
module _ (block : List Insn) (set : Spots) (i cycle q : ℕ) (unit : FunctionalUnit) (stands : (k : ℕ)
    → IsAt set k (record { cycle = cycle; unit = unit }) → q ≡ k) where
  who : (k : ℕ) (way : IsInTheWay block set i cycle k) → index_of way.spot.unit ≡ index_of unit → q ≡ k
  who k way e = stands k (at_spot set k cycle unit way.spot way.placed way.stands (same_index way.spot.unit unit e))

  pub first_skip : (first : Option ℕ) → IsFirstBefore block set i cycle (index_of unit) first
      → (IsInTheWay block set i cycle q → ⊥) → IsFirstBefore block set i cycle (index_of unit + 1) first
  first_skip None none not = λ k way lt. elim (cases_eq (index_of way.spot.unit) (index_of unit)) [
    | inl e ↦ not (subst (λ (x : ℕ). IsInTheWay block set i cycle x) (sym (who k way e)) way)
    | inr ne ↦ none k way (omega (arith, lt, ne))
  ]
  first_skip (Some b) first not = record {
    in_the_way = first.in_the_way;
    first = λ k way lt. elim (cases_eq (index_of way.spot.unit) (index_of unit)) [
      | inl e ↦ absurd (not (subst (λ (x : ℕ). IsInTheWay block set i cycle x) (sym (who k way e)) way))
      | inr ne ↦ first.first k way (omega (arith, lt, ne))
    ];
  }

  pub first_new : IsFirstBefore block set i cycle (index_of unit) None → IsInTheWay block set i cycle q
      → IsFirstBefore block set i cycle (index_of unit + 1) (Some q)
  first_new none here = record {
    in_the_way = here;
    first = λ k way lt. elim (cases_eq (index_of way.spot.unit) (index_of unit)) [
      | inl e ↦ (let same = who k way e in inr (rw (← same) refl, omega (arith, same)))
      | inr ne ↦ absurd (none k way (omega (arith, lt, ne)))
    ];
  }

  pub first_keep : (b : ℕ) → IsFirstOf block set i cycle (index_of unit) b → MakesWayBefore block b q
      → IsFirstBefore block set i cycle (index_of unit + 1) (Some b)
  first_keep b first before = record {
    in_the_way = first.in_the_way;
    first = λ k way lt. elim (cases_eq (index_of way.spot.unit) (index_of unit)) [
      | inl e ↦ subst (MakesWayBefore block b) (who k way e) before
      | inr ne ↦ first.first k way (omega (arith, lt, ne))
    ];
  }

  pub first_swap : (b : ℕ) → IsFirstOf block set i cycle (index_of unit) b → (MakesWayBefore block b q → ⊥)
      → IsInTheWay block set i cycle q
      → IsFirstBefore block set i cycle (index_of unit + 1) (Some q)
  first_swap b first out here = record {
    in_the_way = here;
    first = λ k way lt. elim (cases_eq (index_of way.spot.unit) (index_of unit)) [
      | inl e ↦ (let same = who k way e in inr (rw (← same) refl, omega (arith, same)))
      | inr ne ↦ way_past block q b k (way_other block b q out) (first.first k way (omega (arith, lt, ne)))
    ];
  }

pub one_early : (block : List Insn) (set : Spots) (i c d : ℕ) → IsEarly block set i c → IsEarly block set i d → c ≡ d
one_early block set i c d a b = (let up = a.least d b.after in let down = b.least c a.after in omega arith)

-- no cycle behind the limit has a victim
pub none_behind : (block : List Insn) (set : Spots) (i cycle : ℕ) → IsLawful block set → IsEarly block set i cycle
    → 5 * length block ≤ cycle
    → HasNoVictim block set i
none_behind block set i cycle lawful early far = λ c q is_early way.
    let same : c ≡ cycle = one_early block set i c cycle is_early early in
    let low = lawful.within q way.spot way.placed in
    omega (arith, same, low, far, way.stands)

pub victim_is : (block : List Insn) (set : Spots) (i cycle n : ℕ) (first : Option ℕ) → 8 ≤ n → IsEarly block set i cycle
    → IsFirstBefore block set i cycle n first → MatchOption first (HasNoVictim block set i) (IsVictim block set i)
victim_is block set i cycle n None all early none = λ c q is_early way.
    let same : c ≡ cycle = one_early block set i c cycle is_early early in
    let here : IsInTheWay block set i cycle q = subst (λ (x : ℕ). IsInTheWay block set i x q) same way in
    none q here (omega (arith, index_of-below here.spot.unit, all))
victim_is block set i cycle n (Some b) all early first = record {
  early = cycle;
  is_early = early;
  in_the_way = first.in_the_way;
  first = λ k way. first.first k way (omega (arith, index_of-below way.spot.unit, all));
}

-- ---- there is one

pub one_victim : (block : List Insn) (set : Spots) (i q k : ℕ) → IsVictim block set i q → IsVictim block set i k → q ≡ k
one_victim block set i q k a b =
    let same : a.early ≡ b.early = one_early block set i a.early b.early a.is_early b.is_early in
    both (a.first k (subst (λ (x : ℕ). IsInTheWay block set i x k) (sym same) b.in_the_way))
    (b.first q (subst (λ (x : ℕ). IsInTheWay block set i x q) same a.in_the_way))
  where
    both : MakesWayBefore block q k → MakesWayBefore block k q → q ≡ k
    both (inl x) (inl y) = absurd (omega (arith, x, y))
    both (inl x) (inr y) = absurd (omega (arith, x, y.0))
    both (inr x) (inl y) = absurd (omega (arith, x.0, y))
    both (inr x) (inr y) = omega (arith, x.1, y.1)
