use Rattle.std.proofs.Common.{◌≡◌, ℕ, ◌+◌, ◌-◌, ◌*◌, ◌<◌, length}
use Rattle.std.specs.Prelude.{slice_index}
use Rattle.c62_depend.specs.Height.{height}
use Rattle.c62_depend.specs.Plan.{insns_of}
use Rattle.c62_tries.proofs.order.Order.by_height.Given as goal

abbrev pub invariant-loop-i : goal.invariant-loop-i
invariant-loop-i l = record {
  sized : length l.all.items ≡ l.i;
  each : (k : ℕ) → k < l.i → slice_index l.all.items k ≡ height (insns_of l.plan) k * 256 + (255 - k);
}
