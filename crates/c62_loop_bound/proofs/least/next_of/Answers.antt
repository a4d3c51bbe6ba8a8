use Rattle.std.proofs.Common.{subst, sym}
use Rattle.std.specs.Prelude.{All, Contains}
use Rattle.std.proofs.lemmas.List.Elements.{All-contains, All-weaker}
use Rattle.c62_loop_bound.specs.Circle.{IsDependence}
use Rattle.c62_loop_bound.proofs.least.next_of.Goals as goal

pub returns : goal.returns
returns c = λ promised body all.
    let each = IsDependence promised body in
    let dependences = c.args.dependences.now in
    c.more_than.ensures promised body (subst (All each) (sym c.deref.ensures.value)
    (All-weaker (Contains dependences) each (λ one h. All-contains each dependences one all h)
    c.in_ok-circle.circle.items c.in_ok-circle.ensures))
