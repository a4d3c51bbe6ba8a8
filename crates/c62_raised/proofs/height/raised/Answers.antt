use Rattle.std.proofs.Common.{arith, ◌≤◌, length, get_or}
use Rattle.std.specs.Prelude.{slice_index}
use Rattle.c62_op.specs.declared.register.Side.TheVariants.{A}
use Rattle.c62_bound.specs.declared.need.Kind.TheVariants.{L as OnL}
use Rattle.c62_depend.specs.Plan.{insns_of}
use Rattle.c62_raised.specs.declared.room.TheConstants.{ROOMS}
use Rattle.c62_raised.specs.declared.room.Room.TheVariants.{Of}
use Rattle.c62_raised.specs.Chain.{lead_in}
use Rattle.c62_raised.proofs.Heights.{raised_low}
use Rattle.c62_raised.proofs.Places.{room_at, one_more_room}
use Rattle.c62_raised.proofs.height.raised.Goals as goal
use Rattle.c62_read.specs.declared.limits.TheConstants.{MOST_INSTRUCTIONS}

pub with_ones-most-requires : goal.with_ones-most-requires
with_ones-most-requires c = c.requires.few

pub loop-k-preserved : goal.loop-k-preserved
loop-k-preserved c =
    let known = c.loop-k.invariant in
    let with = c.with_room-most.ensures in
    let up = with.least in
    let k = c.loop-k.k in
    record {
      own = (let own = known.own in omega (arith, own, up));
      ones = λ j before e. (let one = known.ones j before e in omega (arith, one, up));
      crowds = one_more_room (insns_of c.args.plan.now) (slice_index c.args.heights.now) (lead_in c.args.leads.now) k
          c.loop-k.most c.with_room-most.result
          (get_or ROOMS k (Of OnL A)) (room_at k (Of OnL A) c.loop-k-test.true) up with.covers known.crowds;
      attained = with.attained c.args.delay known.attained;
    }

pub returns-clause-low : goal.returns-clause-low
returns-clause-low c =
    let few : length (insns_of c.args.plan.now) ≤ MOST_INSTRUCTIONS = omega (arith, c.requires.few, c.requires.long) in
    let short : c.args.delay ≤ 255 = omega (arith, c.ranges.delay.fits) in
    raised_low (insns_of c.args.plan.now) (slice_index c.args.heights.now) (lead_in c.args.leads.now) c.args.delay
    c.loop-k.most 1000000 few short
    c.requires.small c.requires.low c.loop-k.invariant.attained

pub overflow_cast-result : goal.overflow_cast-result
overflow_cast-result c =
    let few : length (insns_of c.args.plan.now) ≤ MOST_INSTRUCTIONS = omega (arith, c.requires.few, c.requires.long) in
    let short : c.args.delay ≤ 255 = omega (arith, c.ranges.delay.fits) in
    let low = raised_low (insns_of c.args.plan.now) (slice_index c.args.heights.now) (lead_in c.args.leads.now)
    c.args.delay c.loop-k.most 1000000 few short
    c.requires.small c.requires.low c.loop-k.invariant.attained in
    omega (arith, low)

pub with_room-most-requires-clause-waits : goal.with_room-most-requires-clause-waits
with_room-most-requires-clause-waits c = c.requires.waits c.loop-k.k (Of OnL A) (omega (arith, c.loop-k-test.true))
