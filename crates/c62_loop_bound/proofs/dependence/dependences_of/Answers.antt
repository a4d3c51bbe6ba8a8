use Rattle.std.proofs.Common.{◌∙◌}
use Rattle.c62_loop_bound.specs.Steps.{IsThrice}
use Rattle.c62_loop_bound.proofs.dependence.dependences_of.Goals as goal

pub loop-j-preserved : goal.loop-j-preserved
loop-j-preserved c =
    let path : IsThrice c.args.work.now c.deref.result.now = c.deref.ensures.value ∙ c.in_ok-path.ensures in
    c.in_ok-add_behind.ensures c.args.work.now path c.loop-j.invariant
