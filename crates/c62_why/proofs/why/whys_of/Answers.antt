use Rattle.std.proofs.Common.{arith, ◌≡◌, length, List, sym, subst}
use Rattle.c62_depend.specs.Plan.{insns_of}
use Rattle.c62_why.specs.declared.why.Why.{Why as Standing}
use Rattle.c62_why.proofs.Whys.{AreWhysTo, none_yet, one_more, all_whys}
use Rattle.c62_why.proofs.why.whys_of.Goals as goal

pub loop-j-init : goal.loop-j-init
loop-j-init c =
    subst (λ (whys : List Standing). AreWhysTo (insns_of c.args.plan.now) c.args.cycles c.args.placed.now whys 0)
    (sym c.new-whys.ensures.items)
    (none_yet (insns_of c.args.plan.now) c.args.cycles c.args.placed.now)

pub loop-j-preserved : goal.loop-j-preserved
loop-j-preserved c =
    one_more (insns_of c.args.plan.now) c.args.cycles c.args.placed.now c.loop-j.whys.items c.push.new.self.items
    c.loop-j.j c.in_ok-why.why
    c.in_ok-push.ensures.items c.loop-j.invariant c.in_ok-why.ensures

pub returns : goal.returns
returns c =
    let end = c.loop-j.auto.j-end in
    let all : c.loop-j.j ≡ length c.args.placed.now = omega
    (arith, end, c.loop-j-test.false, c.len-j-end.ensures.len, c.requires.placed) in
    all_whys (insns_of c.args.plan.now) c.args.cycles c.args.placed.now c.loop-j.whys.items c.loop-j.j all
    c.loop-j.invariant
