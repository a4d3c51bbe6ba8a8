-- Each instruction stands in its cell.
use Rattle.std.proofs.Common.{◌≡◌, ◌∙◌, ℕ, zero, suc, Bool, true, false, ◌==◌, List, [], ◌∷◌, ◌++◌, Some, refl, sym, ap}
use Rattle.std.proofs.Common.{arith, cond}
use Rattle.std.specs.Prelude.{find, slice_get}
use Rattle.std.proofs.lemmas.Option.{same_Some}
use Rattle.std.proofs.lemmas.Bool.Decides.{nat_tests}
use Rattle.c62_op.specs.Units.{index_of}
use Rattle.c62_op.proofs.UnitOrder.{same_index}
use Rattle.c62_rules.proofs.Capacities.{one-each-unit}
use Rattle.c62_packet.specs.declared.placed.Placed.{Placed}
use Rattle.c62_packet.specs.Packed.{Packed, issue_of, issued}
use Rattle.c62_grid.specs.Grid.{is_on, packet}
use Rattle.c62_show.specs.Laws.{AreAllShown}
use Rattle.c62_packet.proofs.Placings.{issued_at}

-- what stands where p does is p
abbrev IsAlone : List Placed → Placed → Type 0
IsAlone placed p = (j : ℕ) (q : Placed) → slice_get placed j ≡ Some q → q.cycle ≡ p.cycle
    → index_of q.unit ≡ index_of p.unit → q ≡ p

shown_first : (q : Placed) (rest : List Placed) (p : Placed) (cycle unit : Bool)
    → (index_of q.unit == index_of p.unit) ≡ unit
    → (cycle ≡ true → unit ≡ true → q ≡ p)
    → ((cycle ≡ true → unit ≡ true → ⊥) → find (is_on p.unit) (packet rest p.cycle) ≡ Some p)
    → find (is_on p.unit) (cond cycle (q ∷ []) [] ++ packet rest p.cycle) ≡ Some p
shown_first q rest p false unit is same others = others (λ no _. absurd cc)
shown_first q rest p true true is same others = rw is (ap Some (same refl refl))
shown_first q rest p true false is same others = rw is (others (λ _ no. absurd cc))

shown : (placed : List Placed) (p : Placed) (k : ℕ) → IsAlone placed p → slice_get placed k ≡ Some p
    → find (is_on p.unit) (packet placed p.cycle) ≡ Some p
shown [] p k alone e = absurd cc
shown (q ∷ rest) p zero alone e =
    let is : q ≡ p = same_Some q p e in
    let cycle : (q.cycle == p.cycle) ≡ true = let same = ap (λ (r : Placed). r.cycle) is in grind
    (arith, nat_tests, same) in
    let unit : (index_of q.unit == index_of p.unit) ≡ true = let same = ap (λ (r : Placed). index_of r.unit) is in grind
    (arith, nat_tests, same) in
    shown_first q rest p (q.cycle == p.cycle) (index_of q.unit == index_of p.unit) refl (λ _ _. is)
    (λ no. absurd (no cycle unit))
shown (q ∷ rest) p (suc j) alone e =
    let same : (q.cycle == p.cycle) ≡ true → (index_of q.unit == index_of p.unit) ≡ true → q ≡ p =
    λ cycle unit. alone 0 q refl (grind (arith, nat_tests, cycle)) (grind (arith, nat_tests, unit)) in
    shown_first q rest p (q.cycle == p.cycle) (index_of q.unit == index_of p.unit) refl same
    (λ _. shown rest p j (λ i r f. alone (suc i) r f) e)

pub all_shown : (block : Packed) → AreAllShown block
all_shown block k p sound e =
    let alone : IsAlone block.placed p =
    λ j q f cycle unit. let number : j ≡ k = one-each-unit (issued block.placed) sound.rules p.unit j k (issue_of q)
    (issue_of p) (issued_at block.placed j q f) (issued_at block.placed k p e)
    cycle (same_index q.unit p.unit unit) refl in
    same_Some q p (sym f ∙ (ap (slice_get block.placed) number ∙ e)) in
    shown block.placed p k alone e
