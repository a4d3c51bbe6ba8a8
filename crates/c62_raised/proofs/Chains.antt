-- Chains of dependences, and the longest ones.
use Rattle.std.proofs.Common.{arith, ◌≡◌, ℕ, ◌*◌, ◌<◌, ◌≤◌, List, length, Option, Some, None, refl, ap, subst}
use Rattle.std.specs.Prelude.{ℤ, pos, ◌+ℤ◌, ◌≤ℤ◌}
use Rattle.std.proofs.lemmas.Int.{ints}
use Rattle.std.proofs.lemmas.Option.{same_Some, none-some}
use Rattle.c62_insn.specs.declared.insn.Insn.{Insn}
use Rattle.c62_depend.proofs.Plans.{short_is}
use Rattle.c62_raised.specs.Chain.{Chain, IsLongest}
use Rattle.c62_raised.specs.Chain.Chain.{single, longer}
use Rattle.c62_raised.specs.Steps.{IsSmall}
use Rattle.c62_read.specs.declared.limits.TheConstants.{MOST_INSTRUCTIONS}

pub chain_after : (block : List Insn) (i j : ℕ) (cycles : ℤ) → Chain block i j cycles → (i < j) × (j < length block)
chain_after block i j cycles (single _ _ is) = let short = short_is block i j cycles is in (short.before, short.within)
chain_after block i j cycles (longer k _ sum last before is) =
    let rest = chain_after block i k sum before in
    let short = short_is block k j last is in
    let behind = short.before in
    (omega (arith, rest.0, behind), short.within)

-- a chain has at most five cycles for each number before its end
pub chain_small : (block : List Insn) (i j : ℕ) (cycles : ℤ) → Chain block i j cycles → (cycles ≤ℤ pos (5 * j))
    × (pos 0 ≤ℤ (cycles +ℤ pos (5 * j)))
chain_small block i j cycles (single _ _ is) =
    let short = short_is block i j cycles is in
    let before = short.before in
    let least = short.least in
    let most = short.most in
    (omega (arith, ints, before, most), omega (arith, ints, before, least))
chain_small block i j cycles (longer k _ sum last before is) =
    let rest = chain_small block i k sum before in
    let short = short_is block k j last is in
    let behind = short.before in
    let least = short.least in
    let most = short.most in
    (omega (arith, ints, behind, most, rest.0), omega (arith, ints, behind, least, rest.1))

pub small_lead : (block : List Insn) (i j : ℕ) (o : Option ℤ) → length block ≤ MOST_INSTRUCTIONS
    → IsLongest block i j o → IsSmall o
small_lead block i j None few is = tt
small_lead block i j (Some cycles) few is =
    let after = chain_after block i j cycles is.0 in
    let small = chain_small block i j cycles is.0 in
    (omega (arith, ints, few, after.1, small.1), omega (arith, ints, few, after.1, small.0))

-- there is one longest
pub one_longest : (block : List Insn) (i j : ℕ) (a b : Option ℤ) → IsLongest block i j a → IsLongest block i j b → a ≡ b
one_longest block i j None None p q = refl
one_longest block i j None (Some y) p q = absurd (p y q.0)
one_longest block i j (Some x) None p q = absurd (q x p.0)
one_longest block i j (Some x) (Some y) p q =
    (let same : x ≡ y = omega (arith, ints, q.1 x p.0, p.1 y q.0) in ap Some same)

-- where a longest one is told, there is a chain
pub chain_of : (block : List Insn) (i j : ℕ) (o : Option ℤ) (cycles : ℤ) → IsLongest block i j o → o ≡ Some cycles
    → Chain block i j cycles
chain_of block i j None cycles is e = absurd (none-some cycles e)
chain_of block i j (Some most) cycles is e = subst (Chain block i j) (same_Some most cycles e) is.0
