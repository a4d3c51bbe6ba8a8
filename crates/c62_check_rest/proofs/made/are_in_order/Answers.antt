use Rattle.std.proofs.Common.{rules, arith, ◌≤◌, length}
use Rattle.std.proofs.lemmas.List.Sorted.{IsNonDecreasingBy-from_all_adjacent}
use Rattle.c62_packet.specs.Packed.{listing_position}
use Rattle.c62_check_rest.proofs.made.are_in_order.Goals as goal

pub returns : goal.returns
returns c =
    let end : length c.args.placed.now ≤ c.loop-number.number = search rules in
    IsNonDecreasingBy-from_all_adjacent listing_position c.args.placed.now
    (λ k d l. c.loop-number.invariant k d (omega (arith, l, end)))
