use Rattle.std.proofs.Common.{◌≡◌}
use Rattle.std.proofs.lemmas.Result.{IfOk-weaker}
use Rattle.c62_depend.specs.Plan.{insns_of}
use Rattle.c62_refute.specs.declared.search.Search.TheVariants.{Refuted}
use Rattle.c62_refute.specs.Window.{HoldNone, IsRefuted}
use Rattle.c62_refute.proofs.Holding.{none_refuted}
use Rattle.c62_refute.proofs.search.search_for.Goals as goal

pub returns : goal.returns
returns c =
    IfOk-weaker c.search_in.result (λ found. found ≡ Refuted
    → HoldNone (insns_of c.args.plan.now) c.in_ok-windows.windows.items)
    (λ found. found ≡ Refuted → IsRefuted (insns_of c.args.plan.now) c.args.most)
    (λ found none is. none_refuted (insns_of c.args.plan.now) c.args.most c.in_ok-windows.windows.items
    c.in_ok-windows.ensures.all (none is))
    c.search_in.ensures
