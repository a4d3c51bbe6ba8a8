use Rattle.std.proofs.Common.{rules, arith, ◌≡◌, sym, subst}
use Rattle.c62_depend.specs.Plan.{insns_of}
use Rattle.c62_why.proofs.Holding.{AreFree, free_next, all_free}
use Rattle.c62_why.proofs.held.first_held.Goals as goal

pub returns-in-Some : goal.returns-in-Some
returns-in-Some c = record { first = c.loop-i.i; behind = c.in-Some.ensures; before = c.loop-i.invariant }

pub loop-i-preserved : goal.loop-i-preserved
loop-i-preserved c = free_next (insns_of c.args.plan.now) c.args.placed.now c.args.j c.loop-i.i c.loop-i.invariant
    c.in_default.ensures

pub returns : goal.returns
returns c =
    let end : c.loop-i.i ≡ c.args.j = search rules in
    all_free (insns_of c.args.plan.now) c.args.placed.now c.args.j c.len-all.ensures.sound
    (subst (λ n. AreFree (insns_of c.args.plan.now) c.args.placed.now c.args.j n) end c.loop-i.invariant)
