use Rattle.c62_depend.proofs.Common.{arith, refl, ◌∙◌, not, insns_in}
use Rattle.c62_depend.specs.Direct.{direct_before}
use Rattle.c62_depend.proofs.Common.{ap, Uses}
use Rattle.c62_depend.proofs.Lists.{lists_long, list_is}
use Rattle.c62_depend.proofs.Walks.{below_next, below_end, unawaited, awaits_it}
use Rattle.c62_depend.proofs.direct.by_branch.Goals as goal

pub returns-then-not-uses-j : goal.returns-then-not-uses-j
returns-then-not-uses-j c =
    unawaited c.args.uses.now c.args.j c.index-uses-j.result c.new-direct.result c.requires.within c.index-uses-j.is
    (ap (λ (u : Uses). u.branches) c.index-uses-j.is ∙ c.if-not-uses-j.true)
    c.new-direct.ensures

pub bounds-followers-i : goal.bounds-followers-i
bounds-followers-i c =
    let long = lists_long _ _ c.args.followers.now c.requires.linked in
    omega (arith, long, c.requires.within, c.loop-i-test.true)

pub land_behind-requires-clause-linked : goal.land_behind-requires-clause-linked
land_behind-requires-clause-linked c = (
  c.args.j,
  omega (arith, c.requires.within),
  c.as_slice.ensures
      ∙ list_is (λ i. direct_before (insns_in c.args.uses.now) i c.args.j) _ c.loop-i.i c.args.followers.now
      c.index-followers-i.result c.requires.linked
      (omega (arith, c.requires.within, c.loop-i-test.true)) c.index-followers-i.is,
)

pub loop-i-preserved : goal.loop-i-preserved
loop-i-preserved c =
    let listed = c.as_slice.ensures
    ∙ list_is (λ i. direct_before (insns_in c.args.uses.now) i c.args.j) _ c.loop-i.i c.args.followers.now
    c.index-followers-i.result c.requires.linked
    (omega (arith, c.requires.within, c.loop-i-test.true)) c.index-followers-i.is in
    below_next _ c.loop-i.i c.loop-i.i c.args.j c.loop-i.direct c.with_if-direct.result (not c.land_behind.result) refl
    c.loop-i-test.true
    (awaits_it c.args.uses.now c.args.j c.loop-i.i c.index-uses-j.result c.land_behind.result c.as_slice.result.now
    c.requires.within c.index-uses-j.is
    (ap (λ (u : Uses). u.branches) c.index-uses-j.is ∙ c.if-not-uses-j.false) listed c.land_behind.ensures)
    c.loop-i.invariant c.with_if-direct.ensures

pub returns : goal.returns
returns c = below_end _ c.loop-i.i c.args.j c.loop-i.direct (omega (arith, c.loop-i-test.false)) c.loop-i.invariant
