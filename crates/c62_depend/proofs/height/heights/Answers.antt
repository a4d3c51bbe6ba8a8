use Rattle.c62_depend.proofs.Common.{◌≡◌, ◌-◌, ◌∙◌, length, arith, insns_in}
use Rattle.c62_depend.specs.Direct.{direct_followers}
use Rattle.c62_depend.proofs.Latencies.{many_uses}
use Rattle.c62_depend.proofs.Heights.{heights_all}
use Rattle.c62_depend.proofs.Lists.{lists_long, list_is}
use Rattle.c62_depend.proofs.height.heights.Goals as goal

pub bounds-followers-i : goal.bounds-followers-i
bounds-followers-i c = omega
    (arith, lists_long _ _ c.args.followers.now c.requires.followers, c.loop-i.auto.i, c.loop-i-test.true)

pub height-requires-clause-followers : goal.height-requires-clause-followers
height-requires-clause-followers c =
    c.as_slice.ensures
    ∙ list_is (direct_followers (insns_in c.args.uses.now)) (length c.args.uses.now) (c.loop-i.i - 1)
    c.args.followers.now c.index-followers-i.result
    c.requires.followers (omega (arith, c.loop-i.auto.i, c.loop-i-test.true)) c.index-followers-i.is

pub returns : goal.returns
returns c =
    let last : c.loop-i.i ≡ 0 = omega (arith, c.loop-i-test.false) in
    heights_all (insns_in c.args.uses.now) (length c.args.uses.now) c.loop-i.heights.items
    (rw last at c.loop-i.invariant) (many_uses c.args.uses.now)
