-- Cycles in which nothing is issued, and blocks in which something is.
use Rattle.std.proofs.Common.{◌≡◌, ℕ, suc, ◌<◌, ◌≤◌, Bool, true, false, ◌==◌, nat_lt, List, [], ◌∷◌, length, Option}
use Rattle.std.proofs.Common.{Some, refl, sym, subst, arith, cond, get_or}
use Rattle.std.specs.Prelude.{find}
use Rattle.std.proofs.lemmas.Option.{same_Some}
use Rattle.std.proofs.lemmas.Bool.Decides.{nat_tests}
use Rattle.c62_op.proofs.UnitOrder.{index_of-below}
use Rattle.c62_packet.specs.declared.placed.Placed.{Placed}
use Rattle.c62_packet.specs.Packed.{Packed, IsInListingOrder, IsPacketBlock, issue_of, listing_position}
use Rattle.c62_rules.specs.Length.{landing_end}
use Rattle.c62_grid.specs.Grid.{cycle_or, is_behind, is_issued, next_issue}

-- ---- what is found behind a cycle

found_first : (cycle : ℕ) (q : Placed) (others : Option Placed) (p : Placed) (b : Bool) → nat_lt cycle q.cycle ≡ b
    → (Some p ≡ others → cycle < p.cycle)
    → Some p ≡ cond b (Some q) others → cycle < p.cycle
found_first cycle q others p true is more e =
    let behind : cycle < q.cycle = grind (arith, nat_tests, is) in
    subst (λ (r : Placed). cycle < r.cycle) (same_Some q p (sym e)) behind
found_first cycle q others p false is more e = more e

pub found_behind : (cycle : ℕ) (placed : List Placed) (p : Placed) → Some p ≡ find (is_behind cycle) placed
    → cycle < p.cycle
found_behind cycle [] p e = absurd cc
found_behind cycle (q ∷ rest) p e = found_first cycle q (find (is_behind cycle) rest) p (nat_lt cycle q.cycle) refl
    (found_behind cycle rest p) e

-- ---- nothing is issued between one cycle and the next in which something is

-- each of these stands behind q in the listing
abbrev AreBehind : Placed → List Placed → Type 0
AreBehind q rest = (j : ℕ) (d : Placed) → j < length rest → listing_position q ≤ listing_position (get_or rest j d)

none_before : (q : Placed) (rest : List Placed) (k : ℕ) → AreBehind q rest → k < q.cycle → is_issued rest k ≡ false
none_before q [] k behind before = refl
none_before q (r ∷ rest) k behind before =
    let order : listing_position q ≤ listing_position r = behind 0 r (omega arith) in
    let later : k < r.cycle = omega (arith, order, before, index_of-below q.unit, index_of-below r.unit) in
    let others : is_issued rest k ≡ false = none_before q rest k
    (λ j d within. behind (suc j) d (omega (arith, within))) before in
    grind (arith, nat_tests, later, others)

idle_first : (q : Placed) (rest : List Placed) (cycles cycle k : ℕ) (b : Bool) → AreBehind q rest
    → is_issued (q ∷ rest) cycle ≡ false → cycle ≤ k
    → (is_issued rest cycle ≡ false → k < next_issue rest cycles cycle → is_issued rest k ≡ false)
    → nat_lt cycle q.cycle ≡ b → k < cycle_or cycles (cond b (Some q) (find (is_behind cycle) rest))
    → is_issued (q ∷ rest) k ≡ false
idle_first q rest cycles cycle k true behind idle from more is before =
    let others : is_issued rest k ≡ false = none_before q rest k behind before in
    grind (arith, nat_tests, before, others)
idle_first q rest cycles cycle k false behind idle from more is before =
    let own : (q.cycle == cycle) ≡ false = grind (arith, nat_tests, idle) in
    let others : is_issued rest cycle ≡ false = grind (arith, nat_tests, idle) in
    let none : is_issued rest k ≡ false = more others before in
    grind (arith, nat_tests, own, none, is, from)

pub idle_until : (placed : List Placed) (cycles cycle k : ℕ) → IsInListingOrder placed → is_issued placed cycle ≡ false
    → cycle ≤ k
    → k < next_issue placed cycles cycle → is_issued placed k ≡ false
idle_until [] cycles cycle k order idle from before = refl
idle_until (q ∷ rest) cycles cycle k order idle from before =
    let behind : AreBehind q rest = λ j d within. order 0 (suc j) d (omega arith) (omega (arith, within)) in
    let rises : IsInListingOrder rest = λ i j d le within. order (suc i) (suc j) d (omega (arith, le))
    (omega (arith, within)) in
    idle_first q rest cycles cycle k (nat_lt cycle q.cycle) behind idle from
    (λ none less. idle_until rest cycles cycle k rises none from less) refl before

-- ---- a block that has an instruction has a cycle

first_ends : (placed : List Placed) (cycles : ℕ)
    → ((k : ℕ) (d : Placed) → k < length placed → landing_end (issue_of (get_or placed k d)) ≤ cycles)
    → 0 < length placed → 0 < cycles
first_ends [] cycles drained some = absurd (omega arith)
first_ends (p ∷ rest) cycles drained some =
    let ends : landing_end (issue_of p) ≤ cycles = drained 0 p (omega arith) in
    omega (arith, ends)

pub has_cycle : (block : Packed) → IsPacketBlock block → 0 < length block.placed → 0 < block.cycles
has_cycle block sound some = first_ends block.placed block.cycles sound.drained some
