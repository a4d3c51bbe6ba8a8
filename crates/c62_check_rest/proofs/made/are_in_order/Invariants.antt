use Rattle.std.proofs.Common.{ℕ, ◌+◌, ◌<◌, ◌≤◌, get_or}
use Rattle.c62_packet.specs.declared.placed.Placed.{Placed}
use Rattle.c62_packet.specs.Packed.{listing_position}
use Rattle.c62_check_rest.proofs.made.are_in_order.Given as goal

-- each stands in order behind the one before it, so far
abbrev pub invariant-loop-number : goal.invariant-loop-number
invariant-loop-number l = (k : ℕ) (d : Placed) → k + 1 < l.number
    → listing_position (get_or l.placed k d) ≤ listing_position (get_or l.placed (k + 1) d)
