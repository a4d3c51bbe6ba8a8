-- A row stands on no more units of a set than that has.
use Rattle.std.proofs.Common.{arith, Bool, true, false, not, ◌||◌, cond, eqb, ◌≡◌, ℕ, ◌<◌, ◌≤◌, List, [], ◌∷◌, map}
use Rattle.std.proofs.Common.{refl, sym, ap, ◌∙◌, subst, inl, inr}
use Rattle.std.specs.Prelude.{sum_by}
use Rattle.std.specs.Int.{bit_at}
use Rattle.std.specs.List.{list_all}
use Rattle.std.proofs.lemmas.Bool.{and_parts, or_cases, false≢true}
use Rattle.c62_op.specs.declared.register.Side.{Side}
use Rattle.c62_op.specs.declared.register.Side.TheVariants.{A, B}
use Rattle.c62_op.specs.declared.register.Letter.{Letter}
use Rattle.c62_op.specs.declared.register.Letter.TheVariants.{L, S, M, D}
use Rattle.c62_op.specs.declared.register.Unit.{Unit as FunctionalUnit}
use Rattle.c62_op.specs.Units.{all_units, index_on, index_of}
use Rattle.c62_insn.specs.declared.unit_set.UnitSet.{UnitSet}
use Rattle.c62_insn.specs.UnitSet.{unit_in}
use Rattle.c62_packet.specs.declared.placed.Placed.{Placed}
use Rattle.c62_meaning.proofs.Lookup.{In}
use Rattle.c62_rows.specs.Rows.{IsRow}
use Rattle.c62_loop_bound.specs.declared.share.Share.TheVariants.{Units}
use Rattle.c62_loop_bound.specs.Share.{Takers, are_within, width_of}
use Rattle.c62_loop_bound.proofs.Sums.{numbers_from, sum_rising, all_below, from_zero, sum_mapped}

abbrev pub one : Bool → ℕ
one test = cond test 1 0

pub one_less : (a b : Bool) → (a ≡ true → b ≡ true) → one a ≤ one b
one_less false b h = omega arith
one_less true b h = let e : one b ≡ 1 = ap one (h refl) in omega (arith, e)

-- ---- units

all_pass : {X : Type 0} (p : X → Bool) (xs : List X) (x : X) → list_all p xs ≡ true → In x xs → p x ≡ true
all_pass p [] x all h = absurd h
all_pass p (y ∷ xs) x all (inl e) = subst (λ z. p z ≡ true) e (and_parts (p y) (list_all p xs) all).0
all_pass p (y ∷ xs) x all (inr h) = all_pass p xs x (and_parts (p y) (list_all p xs) all).1 h

in_all_units : (letter : Letter) (side : Side) → In (record { letter = letter; side = side }) all_units
in_all_units L A = inl refl
in_all_units S A = inr (inl refl)
in_all_units M A = inr (inr (inl refl))
in_all_units D A = inr (inr (inr (inl refl)))
in_all_units L B = inr (inr (inr (inr (inl refl))))
in_all_units S B = inr (inr (inr (inr (inr (inl refl)))))
in_all_units M B = inr (inr (inr (inr (inr (inr (inl refl))))))
in_all_units D B = inr (inr (inr (inr (inr (inr (inr (inl refl)))))))

-- what only units of a set take stands on one of these
pub within_stands : (set : UnitSet) (takers : Takers) (unit : FunctionalUnit) → are_within set takers ≡ true
    → takers unit ≡ true → unit_in set unit ≡ true
within_stands set takers unit within is =
    let here = all_pass (λ u. not (takers u) || unit_in set u) all_units unit within
    (in_all_units unit.letter unit.side) in
    elim (or_cases (not (takers unit)) (unit_in set unit) here) [
      | inl none ↦ absurd (false≢true (sym (ap not is) ∙ none))
      | inr there ↦ there
    ]

low_index : (unit : FunctionalUnit) → index_of unit < 8
low_index unit = by_parts unit.letter unit.side
  where
    by_parts : (letter : Letter) (side : Side) → index_on letter side < 8
    by_parts L A = omega arith
    by_parts S A = omega arith
    by_parts M A = omega arith
    by_parts D A = omega arith
    by_parts L B = omega arith
    by_parts S B = omega arith
    by_parts M B = omega arith
    by_parts D B = omega arith

-- whether the unit of an index is in the set
abbrev in_at : UnitSet → ℕ → ℕ
in_at set n = one (eqb (bit_at set.0 n) 1)

abbrev pub on_units : UnitSet → Placed → ℕ
on_units set p = one (unit_in set p.unit)

-- a row stands on no more units of a set than it has
pub row_units : (set : UnitSet) (ps : List Placed) → IsRow (record { insns = ps; idle = 0 })
    → sum_by (on_units set) ps ≤ width_of (Units set)
row_units set ps row =
    let rising : sum_by (in_at set) (map (λ (p : Placed). index_of p.unit) ps) ≤ sum_by (in_at set) (numbers_from 0 8)
    = sum_rising (in_at set) 0 8 8 (map (λ (p : Placed). index_of p.unit) ps) (omega arith) row.in_order
    (from_zero (map (λ (p : Placed). index_of p.unit) ps))
    (all_below (λ (p : Placed). index_of p.unit) 8 ps (λ p. low_index p.unit)) in
    let all : numbers_from 0 8 ≡ map index_of all_units = refl in
    let whole : sum_by (in_at set) (numbers_from 0 8) ≡ width_of (Units set) = ap (sum_by (in_at set)) all
    ∙ sum_mapped (in_at set) index_of all_units in
    omega (arith, rising, whole, sum_mapped (in_at set) (λ (p : Placed). index_of p.unit) ps)
