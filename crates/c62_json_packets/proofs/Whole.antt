-- The packets of a block have its instructions.
use Rattle.std.proofs.Common.{◌≡◌, ◌∙◌, ℕ, zero, suc, ◌+◌, ◌<◌, ◌≤◌, ◌==◌, Bool, true, false, List, [], ◌∷◌, ◌++◌}
use Rattle.std.proofs.Common.{length, refl, ap, arith, get_or}
use Rattle.std.specs.List.{flat_map, range_with_len}
use Rattle.std.proofs.lemmas.Bool.Decides.{nat_tests}
use Rattle.c62_packet.specs.declared.placed.Placed.{Placed}
use Rattle.c62_packet.specs.Packed.{Packed, IsPacketBlock, issue_of}
use Rattle.c62_rules.specs.Length.{landing_end}
use Rattle.c62_packet.proofs.ListingOrder.{cycles_rise}
use Rattle.c62_json_packets.specs.Packets.{issued_in}
use Rattle.c62_json_packets.specs.Laws.{IsWhole}

-- none of these is issued before this cycle
abbrev AreFrom : ℕ → List Placed → Type 0
AreFrom a placed = (j : ℕ) (d : Placed) → j < length placed → a ≤ (get_or placed j d).cycle

none_before : (placed : List Placed) (a cycle : ℕ) → AreFrom a placed → cycle < a → issued_in placed cycle ≡ []
none_before [] a cycle from less = refl
none_before (p ∷ rest) a cycle from less =
    let here : a ≤ p.cycle = from 0 p (omega arith) in
    let others : issued_in rest cycle ≡ [] = none_before rest a cycle
    (λ j d within. from (suc j) d (omega (arith, within)))
    less in
    grind (arith, nat_tests, here, less, others)

-- in the cycles behind its own an instruction isn't issued
behind : (p : Placed) (rest : List Placed) (a n : ℕ) → p.cycle < a
    → flat_map (issued_in (p ∷ rest)) (range_with_len a n) ≡ flat_map (issued_in rest) (range_with_len a n)
behind p rest a zero less = refl
behind p rest a (suc n) less =
    let more = behind p rest (a + 1) n (omega (arith, less)) in
    let own : (p.cycle == a) ≡ false = grind (arith, nat_tests, less) in
    rw own (ap (λ others. issued_in rest a ++ others) more)

-- the first instruction is the first that is issued
abbrev FirstOf : Placed → List Placed → (a n : ℕ) → Type 0
FirstOf p rest a n =
    flat_map (issued_in (p ∷ rest)) (range_with_len a n) ≡ p ∷ flat_map (issued_in rest) (range_with_len a n)

first_in : (p : Placed) (rest : List Placed) (a n : ℕ) (b : Bool) → (p.cycle == a) ≡ b
    → AreFrom p.cycle rest → a ≤ p.cycle → (a < p.cycle → FirstOf p rest (a + 1) n) → FirstOf p rest a (suc n)
first_in p rest a n true is from le later =
    let more = behind p rest (a + 1) n (grind (arith, nat_tests, is)) in
    rw is (ap (λ others. p ∷ issued_in rest a ++ others) more)
first_in p rest a n false is from le later =
    let less : a < p.cycle = grind (arith, nat_tests, is, le) in
    let none : issued_in rest a ≡ [] = none_before rest p.cycle a from less in
    rw (is, none) (later less)

first : (p : Placed) (rest : List Placed) (a n : ℕ) → AreFrom p.cycle rest → a ≤ p.cycle → p.cycle < a + n
    → FirstOf p rest a n
first p rest a zero from le within = absurd (omega (arith, le, within))
first p rest a (suc n) from le within = first_in p rest a n (p.cycle == a) refl from le
    (λ less. first p rest (a + 1) n from (omega (arith, less)) (omega (arith, within)))

none_issued : (a n : ℕ) → flat_map (issued_in []) (range_with_len a n) ≡ []
none_issued a zero = refl
none_issued a (suc n) = none_issued (a + 1) n

-- these cycles rise, and all are below this one
abbrev AreRising : List Placed → Type 0
AreRising placed =
    (i j : ℕ) (d : Placed) → i ≤ j → j < length placed → (get_or placed i d).cycle ≤ (get_or placed j d).cycle

abbrev AreBelow : ℕ → List Placed → Type 0
AreBelow cycles placed = (j : ℕ) (d : Placed) → j < length placed → (get_or placed j d).cycle < cycles

all_issued : (placed : List Placed) (cycles : ℕ) → AreRising placed → AreBelow cycles placed
    → flat_map (issued_in placed) (range_with_len 0 cycles) ≡ placed
all_issued [] cycles rise below = none_issued 0 cycles
all_issued (p ∷ rest) cycles rise below =
    let from : AreFrom p.cycle rest = λ j d within. rise 0 (suc j) d (omega arith) (omega (arith, within)) in
    let more : flat_map (issued_in rest) (range_with_len 0 cycles) ≡ rest = all_issued rest cycles
    (λ i j d le within. rise (suc i) (suc j) d (omega (arith, le)) (omega (arith, within)))
    (λ j d within. below (suc j) d (omega (arith, within))) in
    first p rest 0 cycles from (omega arith) (omega (arith, below 0 p (omega arith))) ∙ ap (λ others. p ∷ others) more

below_length : (block : Packed) → IsPacketBlock block → AreBelow block.cycles block.placed
below_length block sound j d within =
    let ends : landing_end (issue_of (get_or block.placed j d)) ≤ block.cycles = sound.drained j d within in
    omega (arith, ends)

pub whole : (block : Packed) → IsWhole block
whole block sound =
    all_issued block.placed block.cycles (cycles_rise block.placed sound.in_order) (below_length block sound)
