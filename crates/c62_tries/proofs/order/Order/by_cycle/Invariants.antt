use Rattle.std.proofs.Common.{◌≡◌, ℕ, ◌<◌, length}
use Rattle.std.specs.Prelude.{slice_index}
use Rattle.c62_tries.specs.Order.{IsUrgencyBy}
use Rattle.c62_tries.proofs.order.Order.by_cycle.Given as goal

abbrev pub invariant-loop-cycle : goal.invariant-loop-cycle
invariant-loop-cycle l = record {
  sized : length l.all.items ≡ l.cycle-index;
  each : (k : ℕ) → k < l.cycle-index → IsUrgencyBy l.way (slice_index l.cycles k) (slice_index l.all.items k);
}
