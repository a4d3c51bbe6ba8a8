-- Listing order.
use Rattle.std.proofs.Common.{arith, ◌≤◌, List, get_or}
use Rattle.std.specs.List.Sorted.{IsNonDecreasingBy}
use Rattle.c62_op.proofs.UnitOrder.{index_of-below}
use Rattle.c62_packet.specs.declared.placed.Placed.{Placed}
use Rattle.c62_packet.specs.Packed.{listing_position, IsInListingOrder}

-- in listing order the cycles rise
pub cycles_rise : (placed : List Placed) → IsInListingOrder placed → IsNonDecreasingBy (λ (p : Placed). p.cycle) placed
cycles_rise placed order i j d le within =
    let order_is : listing_position (get_or placed i d) ≤ listing_position (get_or placed j d) = order i j d le within
    in
    let small = index_of-below (get_or placed j d).unit in
    omega (arith, order_is, small)
