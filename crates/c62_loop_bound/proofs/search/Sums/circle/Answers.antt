use Rattle.std.proofs.Common.{subst, sym}
use Rattle.std.specs.Prelude.{All, Contains}
use Rattle.std.proofs.lemmas.List.Elements.{All-push}
use Rattle.c62_loop_bound.proofs.search.Sums.circle.Goals as goal

pub returns-then-at-number : goal.returns-then-at-number
returns-then-at-number c =
    subst (All (Contains c.args.dependences.now)) (sym c.in_ok-push.ensures.items)
    (All-push (Contains c.args.dependences.now) c.loop.circle.items c.in-Some.one c.loop.invariant c.in-Some.ensures)

pub loop-preserved : goal.loop-preserved
loop-preserved c =
    subst (All (Contains c.args.dependences.now)) (sym c.in_ok-push.ensures.items)
    (All-push (Contains c.args.dependences.now) c.loop.circle.items c.in-Some.one c.loop.invariant c.in-Some.ensures)
