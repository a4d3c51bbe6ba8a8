use Rattle.std.proofs.Common.{◌≡◌, ℕ, ◌-◌, ◌*◌, ◌<◌, ◌≤◌, length}
use Rattle.std.specs.Prelude.{slice_index}
use Rattle.c62_depend.specs.Plan.{insns_of}
use Rattle.c62_raised.specs.Raised.{IsRaisedAt}
use Rattle.c62_raised.specs.Order.{IsOrder}
use Rattle.c62_raised.specs.Steps.{AreLow}
use Rattle.c62_raised.proofs.height.heights.Given as goal
use Rattle.c62_read.specs.declared.limits.TheConstants.{MOST_INSTRUCTIONS}

abbrev pub invariant-loop-i : goal.invariant-loop-i
invariant-loop-i l = record {
  long : length l.heights ≡ MOST_INSTRUCTIONS;
  raised : (k : ℕ) → l.i ≤ k → k < length (insns_of l.plan) → IsRaisedAt (insns_of l.plan) (slice_index l.heights) k;
  order : IsOrder l.i (length (insns_of l.plan)) (slice_index l.heights) l.order.items;
  low : AreLow (1536 * (length (insns_of l.plan) - l.i)) l.heights;
}
