use Rattle.std.proofs.Common.{◌∙◌}
use Rattle.c62_depend.specs.Plan.{insns_of}
use Rattle.c62_refute.proofs.Holding.{keep_on, none_before}
use Rattle.c62_refute.proofs.shrink.part_rooms.Goals as goal

pub returns-then-not-branch-clause-none : goal.returns-then-not-branch-clause-none
returns-then-not-branch-clause-none c = λ e. none_before (insns_of c.args.plan.now) c.args.windows.now
    c.loop-room.windows c.loop-room.invariant.keeps
    (c.in_ok-part_room.ensures.none c.if-not-branch.true)

pub loop-room-preserved : goal.loop-room-preserved
loop-room-preserved c = record {
  sized = c.in_ok-part_room.ensures.sized ∙ c.loop-room.invariant.sized;
  keeps = keep_on (insns_of c.args.plan.now) c.args.windows.now c.loop-room.windows c.part_room.new.windows
      c.loop-room.invariant.keeps
      (c.in_ok-part_room.ensures.keeps c.if-not-branch.false);
}
