use Rattle.std.proofs.Common.{◌≡◌, ℕ, ◌<◌, ◌≤◌, Some}
use Rattle.std.specs.Prelude.{ℤ, slice_index}
use Rattle.c62_depend.specs.Height.{raised}
use Rattle.c62_depend.specs.Plan.{insns_of}
use Rattle.c62_raised.specs.declared.room.Room.{Room}
use Rattle.c62_raised.specs.Room.{room_index}
use Rattle.c62_raised.specs.Chain.{lead_in}
use Rattle.c62_raised.specs.Raised.{IsReached}
use Rattle.c62_raised.specs.Steps.{CoversCrowds}
use Rattle.c62_raised.proofs.height.raised.Given as goal

abbrev pub invariant-loop-k : goal.invariant-loop-k
invariant-loop-k l = record {
  own : l.delay ≤ l.most;
  ones : (j : ℕ) (before : ℤ) → lead_in l.leads j ≡ Some before → raised before (slice_index l.heights j) ≤ l.most;
  crowds : (room : Room) → room_index room < l.k
      → CoversCrowds (insns_of l.plan) (slice_index l.heights) (lead_in l.leads) room l.most;
  attained : IsReached (insns_of l.plan) (slice_index l.heights) (lead_in l.leads) l.delay l.most;
}
