-- The whys of the first instructions.
use Rattle.std.proofs.Common.{arith, ◌≡◌, ℕ, zero, suc, ◌+◌, ◌<◌, List, [], ◌∷◌, ◌++◌, length, Some, refl, sym, ap}
use Rattle.std.proofs.Common.{subst, ◌∙◌, inl, inr}
use Rattle.std.specs.Prelude.{slice_get}
use Rattle.std.proofs.lemmas.Bool.{cases_lt}
use Rattle.std.proofs.lemmas.Grind.{common_steps}
use Rattle.std.proofs.lemmas.Option.{slice_get_within, same_Some}
use Rattle.c62_insn.specs.declared.insn.Insn.{Insn}
use Rattle.c62_packet.specs.declared.placed.Placed.{Placed}
use Rattle.c62_why.specs.declared.why.Why.{Why as Standing}
use Rattle.c62_why.specs.Why.{IsWhy, AreWhys}

push_before : {X : Type 0} (xs : List X) (x : X) (j : ℕ) → j < length xs → slice_get (xs ++ x ∷ []) j ≡ slice_get xs j
push_before [] x j inside = absurd (omega (arith, inside))
push_before (y ∷ xs) x zero inside = refl
push_before (y ∷ xs) x (suc j) inside = push_before xs x j (omega (arith, inside))

push_last : {X : Type 0} (xs : List X) (x : X) → slice_get (xs ++ x ∷ []) (length xs) ≡ Some x
push_last [] x = refl
push_last (y ∷ xs) x = push_last xs x

-- so many of the whys are there
pub record AreWhysTo (block : List Insn) (cycles : ℕ) (placed : List Placed) (whys : List Standing) (count : ℕ) : Type 0
  where
    pub long : length whys ≡ count
    pub each : (j : ℕ) (why : Standing) → slice_get whys j ≡ Some why → IsWhy block cycles placed j why

pub none_yet : (block : List Insn) (cycles : ℕ) (placed : List Placed) → AreWhysTo block cycles placed [] 0
none_yet block cycles placed = record { long = refl; each = λ j why at. absurd cc }

pub one_more : (block : List Insn) (cycles : ℕ) (placed : List Placed) (whys more : List Standing) (count : ℕ)
    (why : Standing) → more ≡ whys ++ why ∷ []
    → AreWhysTo block cycles placed whys count → IsWhy block cycles placed count why
    → AreWhysTo block cycles placed more (count + 1)
one_more block cycles placed whys more count why is are one =
    let long = are.long in
    let longer : length more ≡ length whys + 1 = grind (arith, common_steps, is) in
    record {
      long = omega (arith, long, longer);
      each = λ j other at. (
          elim (cases_lt j (length whys)) [
            | inl before ↦ are.each j other (sym (push_before whys why j before)
                ∙ (sym (ap (λ ws. slice_get ws j) is) ∙ at))
            | inr after ↦
                (let inside : j < length more = slice_get_within more j other at in
                let here : j ≡ length whys = omega (arith, after, inside, longer) in
                let last : slice_get more j ≡ Some why = ap (λ ws. slice_get ws j) is
                ∙ (ap (λ n. slice_get (whys ++ why ∷ []) n) here ∙ push_last whys why) in
                let same : other ≡ why = same_Some other why (sym at ∙ last) in
                let place : count ≡ j = omega (arith, long, here) in
                subst (λ w. IsWhy block cycles placed j w) (sym same)
                (subst (λ n. IsWhy block cycles placed n why) place one))
          ]);
    }

pub all_whys : (block : List Insn) (cycles : ℕ) (placed : List Placed) (whys : List Standing) (count : ℕ)
    → count ≡ length placed
    → AreWhysTo block cycles placed whys count → AreWhys block cycles placed whys
all_whys block cycles placed whys count end are = record
    { count = (let long = are.long in omega (arith, long, end)); each = are.each }
