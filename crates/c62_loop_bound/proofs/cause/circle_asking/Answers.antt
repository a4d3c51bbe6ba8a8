use Rattle.std.proofs.Common.{◌≡◌, List, subst, sym}
use Rattle.std.specs.Prelude.{All, Contains, IfSome}
use Rattle.std.proofs.lemmas.List.Elements.{All-contains, All-weaker}
use Rattle.c62_loop_bound.specs.declared.dependence.Dependence.{Dependence}
use Rattle.c62_loop_bound.specs.Cause.{IsThatCircle}
use Rattle.c62_loop_bound.specs.Circle.{iterations, IsDependence}
use Rattle.c62_loop_bound.proofs.cause.circle_asking.Goals as goal

pub returns-in-Some : goal.returns-in-Some
returns-in-Some c = λ promised counter body all.
    let each = IsDependence promised body in
    let dependences = c.args.dependences.now in
    let steps = c.in_ok-steps.steps.items in
    let told = c.iterations_asking.ensures promised body (subst (All each) (sym c.deref.ensures.value)
    (All-weaker (Contains dependences) each (λ one h. All-contains each dependences one all h) steps
    c.in_ok-steps.ensures)) in
    subst (λ (way : List Dependence). IsThatCircle promised body c.args.cycles way
    × (c.in-Some.iterations ≡ iterations way)) c.deref.ensures.value
    (subst (λ found. IfSome found (λ over. IsThatCircle promised body c.args.cycles c.deref.result.now
    × (over ≡ iterations c.deref.result.now))) c.in-Some.is told)
