use Rattle.c62_depend.proofs.Common.{arith, insns_in, pos}
use Rattle.c62_depend.proofs.Plans.{short_is}
use Rattle.c62_depend.proofs.Linked.{link_at, short_more, land_found}
use Rattle.c62_depend.proofs.direct.land_behind.Goals as goal

pub lands_behind-requires-clause-within : goal.lands_behind-requires-clause-within
lands_behind-requires-clause-within c =
    let w = c.requires.linked in
    let known = link_at (insns_in c.args.uses.now) c.args.i w.0 c.loop-link.link-index c.args.followers.now
    (record { number = 0; latency = pos 0 }) w.2 c.loop-link-test.true in
    omega (arith, known.before, w.1)

pub lands_behind-requires-clause-above : goal.lands_behind-requires-clause-above
lands_behind-requires-clause-above c =
    let w = c.requires.linked in
    let known = link_at (insns_in c.args.uses.now) c.args.i w.0 c.loop-link.link-index c.args.followers.now
    (record { number = 0; latency = pos 0 }) w.2 c.loop-link-test.true in
    (short_is (insns_in c.args.uses.now) c.args.i _ _ known.is).least

pub lands_behind-requires-clause-below : goal.lands_behind-requires-clause-below
lands_behind-requires-clause-below c =
    let w = c.requires.linked in
    let known = link_at (insns_in c.args.uses.now) c.args.i w.0 c.loop-link.link-index c.args.followers.now
    (record { number = 0; latency = pos 0 }) w.2 c.loop-link-test.true in
    (short_is (insns_in c.args.uses.now) c.args.i _ _ known.is).most

pub returns-then-lands_behind : goal.returns-then-lands_behind
returns-then-lands_behind c =
    land_found c.args.uses.now c.args.i c.loop-link.link-index c.args.followers.now c.index-uses-i.result
    (record { number = 0; latency = pos 0 })
    c.lands_behind.result c.requires.within c.index-uses-i.is c.loop-link-test.true c.lands_behind.ensures
    c.if-lands_behind.true

pub loop-link-preserved : goal.loop-link-preserved
loop-link-preserved c =
    short_more c.args.uses.now c.args.i c.loop-link.link-index c.args.followers.now c.index-uses-i.result
    (record { number = 0; latency = pos 0 })
    c.lands_behind.result c.requires.within c.index-uses-i.is c.loop-link-test.true c.lands_behind.ensures
    c.if-lands_behind.false c.loop-link.invariant
