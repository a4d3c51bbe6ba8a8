-- Blocks as they are read, and packet blocks.
use Rattle.c62_listing_reader.proofs.Common.{arith, ◌≡◌, ℕ, ◌+◌, ◌*◌, ◌<◌, ◌≤◌, List, length, get_or, map, Some, ap}
use Rattle.c62_listing_reader.proofs.Common.{◌∙◌, IsNonDecreasingBy}
use Rattle.c62_listing_reader.proofs.Common.{length-map, unit_of, Placed, listing_position, IsInListingOrder}
use Rattle.c62_listing_reader.proofs.Common.{StandAsWritten, part_of, unit_index}
use Rattle.c62_listing_reader.proofs.Common.{part_position}
use Rattle.std.proofs.lemmas.List.{get_or-map}

same_position : (p : Placed) → unit_of p.insn ≡ Some p.unit → part_position (part_of p) ≡ listing_position p
same_position p e = ap (λ (n : ℕ). 8 * p.cycle + n) (ap unit_index e)

pub in_order : (placed : List Placed) → StandAsWritten placed → IsNonDecreasingBy part_position (map part_of placed)
    → IsInListingOrder placed
in_order placed written up i j d le within =
    let low : i < length placed = omega (arith, le, within) in
    let all : length (map part_of placed) ≡ length placed = length-map placed part_of in
    let positions : part_position (get_or (map part_of placed) i (part_of d)) ≤ part_position
    (get_or (map part_of placed) j (part_of d))
    = up i j (part_of d) le (omega (arith, within, all)) in
    let at_i : part_position (get_or (map part_of placed) i (part_of d)) ≡ listing_position (get_or placed i d)
    = ap part_position (get_or-map part_of placed i d (part_of d) low)
    ∙ same_position (get_or placed i d) (written i d low) in
    let at_j : part_position (get_or (map part_of placed) j (part_of d)) ≡ listing_position (get_or placed j d)
    = ap part_position (get_or-map part_of placed j d (part_of d) within)
    ∙ same_position (get_or placed j d) (written j d within) in
    omega (arith, positions, at_i, at_j)
