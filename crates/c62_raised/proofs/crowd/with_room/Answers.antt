use Rattle.std.proofs.Common.{arith, ◌≡◌, length, get_or, false, refl}
use Rattle.std.specs.Prelude.{slice_index}
use Rattle.c62_depend.specs.Plan.{insns_of}
use Rattle.c62_raised.specs.Chain.{lead_in}
use Rattle.c62_raised.proofs.Passes.{stepped, ended}
use Rattle.c62_raised.proofs.crowd.with_room.Goals as goal

pub loop-k-preserved : goal.loop-k-preserved
loop-k-preserved c =
    let block = insns_of c.args.plan.now in
    let order = c.args.order.now in
    let k = c.loop-k.k in
    let inside = c.loop-k-test.true in
    let low = c.requires.order.1.within k inside in
    let step = rw c.from-j.ensures at c.with_number-pass.ensures in
    stepped block (slice_index c.args.heights.now) (lead_in c.args.leads.now) c.args.room order c.requires.order
    c.requires.leads c.args.least k c.loop-k.pass c.with_number-pass.result
    (get_or c.args.waits.now (slice_index order k) false) (lead_in c.args.leads.now (slice_index order k))
    (slice_index c.args.heights.now (slice_index order k)) inside
    (c.requires.waits (slice_index order k) low) refl refl step c.loop-k.invariant

pub returns-clause-covers : goal.returns-clause-covers
returns-clause-covers c =
    let order = c.args.order.now in
    let e : c.loop-k.k ≡ length order = omega (arith, c.loop-k-test.false, c.loop-k.auto.k-end) in
    let all = ended (insns_of c.args.plan.now) (slice_index c.args.heights.now) (lead_in c.args.leads.now) c.args.room order
    c.requires.order c.requires.leads c.args.least c.loop-k.pass.held c.loop-k.pass.most (rw e at c.loop-k.invariant) in
    rw c.closed.ensures all.1

pub returns-clause-attained : goal.returns-clause-attained
returns-clause-attained c =
    let order = c.args.order.now in
    let e : c.loop-k.k ≡ length order = omega (arith, c.loop-k-test.false, c.loop-k.auto.k-end) in
    let all = ended (insns_of c.args.plan.now) (slice_index c.args.heights.now) (lead_in c.args.leads.now) c.args.room order
    c.requires.order c.requires.leads c.args.least c.loop-k.pass.held c.loop-k.pass.most (rw e at c.loop-k.invariant) in
    rw c.closed.ensures all.2
