use Rattle.c62_depend.proofs.Common.{◌≡◌, arith, ap, sym, ◌∙◌, max, pos, ℕ, take, slice_index, get_or, insns_in}
use Rattle.c62_depend.proofs.Common.{delay_at, longest, raised, length}
use Rattle.std.proofs.Common.{rules}
use Rattle.c62_depend.proofs.Latencies.{many_uses}
use Rattle.c62_depend.proofs.Plans.{short_is}
use Rattle.c62_depend.proofs.Heights.{low_behind}
use Rattle.c62_depend.proofs.DirectHeights.{follower_at, longest_take, height_found}
use Rattle.c62_depend.proofs.height.height.Goals as goal

pub bounds-heights-link : goal.bounds-heights-link
bounds-heights-link c =
    let known = follower_at c.args.uses.now c.args.i c.loop-link.link-index c.args.followers.now
    (record { number = 0; latency = pos 0 }) c.requires.followers c.loop-link-test.true in
    omega (arith, known.before, c.requires.behind.long, many_uses c.args.uses.now)

pub raised-requires-clause-height : goal.raised-requires-clause-height
raised-requires-clause-height c =
    let known = follower_at c.args.uses.now c.args.i c.loop-link.link-index c.args.followers.now
    (record { number = 0; latency = pos 0 }) c.requires.followers c.loop-link-test.true in
    low_behind (insns_in c.args.uses.now) c.args.i _ c.args.heights.now c.requires.behind
    (omega (arith, c.requires.few, many_uses c.args.uses.now)) known.after
    (omega (arith, known.before, many_uses c.args.uses.now))

pub raised-requires-clause-above : goal.raised-requires-clause-above
raised-requires-clause-above c =
    let known = follower_at c.args.uses.now c.args.i c.loop-link.link-index c.args.followers.now
    (record { number = 0; latency = pos 0 }) c.requires.followers c.loop-link-test.true in
    (short_is (insns_in c.args.uses.now) c.args.i _ _ known.is).least

pub raised-requires-clause-below : goal.raised-requires-clause-below
raised-requires-clause-below c =
    let known = follower_at c.args.uses.now c.args.i c.loop-link.link-index c.args.followers.now
    (record { number = 0; latency = pos 0 }) c.requires.followers c.loop-link-test.true in
    (short_is (insns_in c.args.uses.now) c.args.i _ _ known.is).most

pub loop-link-preserved : goal.loop-link-preserved
loop-link-preserved c =
    let links = c.args.followers.now in
    let k = c.loop-link.link-index in
    let most : c.max-most.result ≡ max c.loop-link.most c.raised.result = search rules in
    most ∙ ap (λ (m : ℕ). max m c.raised.result) c.loop-link.invariant
    ∙ ap (λ (r : ℕ). max (longest (slice_index c.args.heights.now) (delay_at (insns_in c.args.uses.now) c.args.i)
    (take k links)) r) c.raised.ensures
    ∙ sym (longest_take (slice_index c.args.heights.now) (delay_at (insns_in c.args.uses.now) c.args.i) k links
    (record { number = 0; latency = pos 0 })
    c.loop-link-test.true)

pub returns : goal.returns
returns c =
    height_found c.args.uses.now c.args.i c.args.heights.now c.args.followers.now c.loop-link.link-index
    c.loop-link.most c.requires.within
    c.requires.followers c.requires.behind (omega (arith, c.loop-link-test.false)) c.loop-link.invariant
