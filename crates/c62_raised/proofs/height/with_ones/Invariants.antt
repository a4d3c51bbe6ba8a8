use Rattle.std.proofs.Common.{◌≡◌, ℕ, ◌<◌, ◌≤◌, ◌⊎◌, Some}
use Rattle.std.specs.Prelude.{ℤ, slice_index}
use Rattle.c62_depend.specs.Height.{raised}
use Rattle.c62_raised.specs.Chain.{lead_in}
use Rattle.c62_raised.proofs.height.with_ones.Given as goal

abbrev pub invariant-loop-j : goal.invariant-loop-j
invariant-loop-j l = record {
  own : l.delay ≤ l.most;
  ones : (k : ℕ) (before : ℤ) → k < l.j → lead_in l.leads k ≡ Some before
      → raised before (slice_index l.heights k) ≤ l.most;
  attained : (l.most ≡ l.delay)
      ⊎ ((k : ℕ) × (before : ℤ) × (lead_in l.leads k ≡ Some before)
      × (l.most ≡ raised before (slice_index l.heights k)));
}
