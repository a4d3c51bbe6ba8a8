-- What waits for a room is counted by its heights.
use Rattle.std.proofs.Common.{arith, ◌≡◌, ℕ, zero, suc, ◌+◌, List, [], ◌∷◌, ◌++◌, refl, sym, ap, ◌∙◌, subst, inl, inr}
use Rattle.std.proofs.Common.{Bool, true, false, cond}
use Rattle.std.specs.Prelude.{nat_le, count_by}
use Rattle.std.proofs.lemmas.Bool.{cases_lt}
use Rattle.std.proofs.lemmas.List.Sums.{sum_by_push}
use Rattle.std.proofs.lemmas.Bool.Decides.{nat_tests}
use Rattle.c62_op.specs.declared.register.Side.{Side}
use Rattle.c62_insn.specs.declared.insn.Insn.{Insn}
use Rattle.c62_depend.specs.Height.{height}
use Rattle.c62_sheet.specs.Counts.{HasCount}
use Rattle.c62_bound.specs.declared.need.Kind.{Kind}
use Rattle.c62_bound.specs.Bound.{IsConfined}
use Rattle.c62_bound.specs.Waiting.{AreWaiting}

one_more : (p : ℕ → Bool) (h : ℕ) (heights : List ℕ) → p h ≡ true
    → count_by p (heights ++ h ∷ []) ≡ count_by p heights + 1
one_more p h heights e = sum_by_push (λ (x : ℕ). cond (p x) 1 0) heights h ∙ rw e refl

as_many : (p : ℕ → Bool) (h : ℕ) (heights : List ℕ) → p h ≡ false → count_by p (heights ++ h ∷ []) ≡ count_by p heights
as_many p h heights e = sum_by_push (λ (x : ℕ). cond (p x) 1 0) heights h ∙ rw e (omega arith)

pub counts_confined : (block : List Insn) (kind : Kind) (side : Side) (tail n : ℕ) (heights : List ℕ)
    → AreWaiting block kind side n heights
    → HasCount (IsConfined block kind side tail) n (count_by (nat_le tail) heights)
counts_confined block kind side tail zero heights are = ap (count_by (nat_le tail)) are
counts_confined block kind side tail (suc n) heights are = elim are [
  | inl w ↦
      (let before : List ℕ = w.1.0 in
      let is : heights ≡ before ++ height block n ∷ [] = w.1.1 in
      let rest = counts_confined block kind side tail n before w.1.2 in
      elim (cases_lt (height block n) tail) [
        | inl low ↦
            (let below : nat_le tail (height block n) ≡ false = grind (arith, low, nat_tests) in
            let same = ap (count_by (nat_le tail)) is ∙ as_many (nat_le tail) (height block n) before below in
            inr (
              (λ c. (let tall = c.tall in omega (arith, tall, low))),
              subst
                  (HasCount (IsConfined block kind side tail) n) (sym same) rest,
            ))
        | inr tall ↦
            (let above : nat_le tail (height block n) ≡ true = grind (arith, tall, nat_tests) in
            let more = ap (count_by (nat_le tail)) is ∙ one_more (nat_le tail) (height block n) before above in
            inl (record { tall = tall; waits = w.0 }, (count_by (nat_le tail) before, more, rest)))
      ])
  | inr w ↦ inr ((λ c. w.0 c.waits), counts_confined block kind side tail n heights w.1)
]
