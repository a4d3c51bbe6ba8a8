use Rattle.std.proofs.Common.{arith, ◌-◌, get_or, List, sym, subst}
use Rattle.std.proofs.lemmas.Option.{slice_get-get_or}
use Rattle.c62_depend.specs.Plan.{insns_of}
use Rattle.c62_show.specs.declared.limits.Step.{Step}
use Rattle.c62_show.proofs.Stepping.{AreStepsTo, none_yet, one_more, all_steps, tight_at}
use Rattle.c62_show.proofs.limits.steps_of.Goals as goal

pub loop-k-init : goal.loop-k-init
loop-k-init c =
    subst (λ (steps : List Step). AreStepsTo c.args.plan.now c.args.path.now steps 1) (sym c.new-steps.ensures.items)
    (none_yet c.args.plan.now c.args.path.now)

pub step_between-requires : goal.step_between-requires
step_between-requires c =
    let some = c.loop-k.auto.k in
    tight_at (insns_of c.args.plan.now) c.args.path.now c.loop-k.k c.requires some c.loop-k-test.true

pub loop-k-preserved : goal.loop-k-preserved
loop-k-preserved c =
    let path = c.args.path.now in
    let k = c.loop-k.k in
    one_more c.args.plan.now path c.loop-k.steps.items c.push.new.self.items k (get_or path (k - 1) 0) (get_or path k 0)
    c.step_between.result
    c.in_ok-push.ensures.items c.loop-k.invariant
    (slice_get-get_or path (k - 1) 0 (let within = c.loop-k-test.true in omega (arith, within)))
    (slice_get-get_or path k 0 c.loop-k-test.true) c.step_between.ensures c.loop-k-test.true

pub returns : goal.returns
returns c =
    let ends = c.loop-k-test.false in
    all_steps c.args.plan.now c.args.path.now c.loop-k.steps.items c.loop-k.k (omega (arith, ends)) c.loop-k.invariant
