-- The instructions of a packet block stand in rising positions, of which each is one cycle and unit.
use Rattle.std.proofs.Common.{◌≡◌, ℕ, suc, ◌+◌, ◌*◌, ◌<◌, ◌≤◌, List, [], ◌∷◌, ◌++◌, length, take, drop, get_or, Some}
use Rattle.std.proofs.Common.{None, refl, sym, subst, ◌⊎◌, ⊎_elim, arith}
use Rattle.std.specs.List.{AllPairs}
use Rattle.std.proofs.lemmas.Bool.{cases_lt}
use Rattle.std.proofs.lemmas.List.{take-append-drop, get_or-map}
use Rattle.c62_op.specs.Units.{index_of as unit_index}
use Rattle.c62_op.proofs.UnitOrder.{same_index, index_of-below}
use Rattle.c62_rules.proofs.Capacities.{one-each-unit}
use Rattle.c62_rules.specs.PacketRules.{IsIssued}
use Rattle.c62_packet.specs.declared.placed.Placed.{Placed}
use Rattle.c62_packet.specs.Packed.{Packed, IsPacketBlock, issue_of, issued, listing_position}
use Rattle.c62_meaning.proofs.Lookup.{In, Contains_from_In, In-append_left, In-append_right, In-append_cases}

-- each later one has a greater position
abbrev pub Ascends : List Placed → Type 0
Ascends [] = Unit {0}
Ascends (p ∷ ps) = ((q : Placed) → In q ps → listing_position p < listing_position q) × Ascends ps

ascends_from : (ps : List Placed) → AllPairs (λ p q. listing_position p < listing_position q) ps → Ascends ps
ascends_from [] h = tt
ascends_from (p ∷ ps) h = (
  (λ q k. let c = Contains_from_In q ps k in let P : Placed
      → Type 0 = λ z. listing_position p < listing_position z in subst P c.2
      (h 0 (suc c.0) q (omega arith) (omega (arith, c.1)))),
  ascends_from ps (λ i j d l u. h (suc i) (suc j) d (omega arith) (omega arith)),
)

-- two instructions of a packet block do not stand in one position
positions_differ : (block : Packed) → IsPacketBlock block → (i j : ℕ) (d : Placed) → i < j → j < length block.placed
    → listing_position (get_or block.placed i d) ≡ listing_position (get_or block.placed j d) → ⊥
positions_differ block h i j d l u e =
    let p = get_or block.placed i d in
    let q = get_or block.placed j d in
    let pu : unit_index p.unit < 8 = index_of-below p.unit in
    let qu : unit_index q.unit < 8 = index_of-below q.unit in
    let e' : 8 * p.cycle + unit_index p.unit ≡ 8 * q.cycle + unit_index q.unit = e in
    let cycle : p.cycle ≡ q.cycle = omega arith in
    let unit : p.unit ≡ q.unit = same_index p.unit q.unit (omega arith) in
    let at_i : IsIssued (issued block.placed) i (issue_of p) = get_or-map (λ (z : Placed). Some (issue_of z))
    block.placed i d None (omega arith) in
    let at_j : IsIssued (issued block.placed) j (issue_of q) = get_or-map (λ (z : Placed). Some (issue_of z))
    block.placed j d None u in
    let same : i ≡ j = one-each-unit (issued block.placed) h.rules q.unit i j (issue_of p) (issue_of q) at_i at_j cycle
    unit refl in
    omega arith

pub ascends : (block : Packed) → IsPacketBlock block → Ascends block.placed
ascends block h = ascends_from block.placed (λ i j d l u.
    ⊎_elim {C = listing_position (get_or block.placed i d) < listing_position (get_or block.placed j d)}
    (λ lt. lt)
    (λ ge. let le : listing_position (get_or block.placed i d) ≤ listing_position (get_or block.placed j d) = h.in_order
    i j d (omega arith) u in
    absurd (positions_differ block h i j d l u (omega arith)))
    (cases_lt (listing_position (get_or block.placed i d)) (listing_position (get_or block.placed j d))))

pub record AreParts (xs ys : List Placed) : Type 0 where
  pub front : Ascends xs
  pub back : Ascends ys
  pub across : (p q : Placed) → In p xs → In q ys → listing_position p < listing_position q

pub parts : (xs ys : List Placed) → Ascends (xs ++ ys) → AreParts xs ys
parts [] ys h = record { front = tt; back = h; across = λ p q a b. absurd a }
parts (x ∷ xs) ys h = grind (arith, parts xs ys h.1, In-append_left, In-append_right)

-- ---- the first instructions of a block, and the others

pub parts_at : (block : List Placed) (n : ℕ) → Ascends block → AreParts (take n block) (drop n block)
parts_at block n h = parts (take n block) (drop n block) (subst Ascends (sym (take-append-drop n block)) h)

pub In-take : (block : List Placed) (n : ℕ) (p : Placed) → In p (take n block) → In p block
In-take block n p h = subst (λ ps. In p ps) (take-append-drop n block)
    (In-append_left p (take n block) (drop n block) h)

pub In-parts : (block : List Placed) (n : ℕ) (p : Placed) → In p block → In p (take n block) ⊎ In p (drop n block)
In-parts block n p h = In-append_cases p (take n block) (drop n block)
    (subst (λ ps. In p ps) (sym (take-append-drop n block)) h)
