use Rattle.std.proofs.Common.{◌<◌, subst}
use Rattle.std.specs.Prelude.{IfSome}
use Rattle.c62_loop_bound.specs.Least.{IsByCircle}
use Rattle.c62_loop_bound.proofs.Circles.{asked_more}
use Rattle.c62_loop_bound.proofs.least.by_circles.Goals as goal

pub loop-preserved : goal.loop-preserved
loop-preserved c = λ promised counter body all asked.
    let least = c.loop.least in
    asked_more promised counter body least c.in-Some.more (c.loop.invariant promised counter body all asked)
    (subst (λ found. IfSome found (λ more. (least < more) × IsByCircle promised body more)) c.in-Some.is
    (c.in_ok-found.ensures promised body all))
