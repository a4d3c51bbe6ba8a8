use Rattle.std.specs.Prelude.{slice_index}
use Rattle.c62_depend.specs.Plan.{insns_of}
use Rattle.c62_raised.specs.Chain.{lead_in}
use Rattle.c62_raised.proofs.Passes.{IsPass}
use Rattle.c62_raised.proofs.crowd.with_room.Given as goal

abbrev pub invariant-loop-k : goal.invariant-loop-k
invariant-loop-k l = IsPass (insns_of l.plan) (slice_index l.heights) (lead_in l.leads) l.room l.order l.fn.least l.k
    l.pass.held l.pass.most
