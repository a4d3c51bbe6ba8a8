use Rattle.std.specs.List.{flat_map}
use Rattle.c62_grid.specs.Landing.{landed_at}
use Rattle.c62_grid.proofs.Drawing.{one_more}
use Rattle.c62_grid.proofs.landing.landed_between.Goals as goal

pub loop-cycle-preserved : goal.loop-cycle-preserved
loop-cycle-preserved c =
    let at = c.loop-cycle in
    one_more (λ cycle. flat_map (landed_at cycle) c.args.landings.now) at.cycle c.args.next at.found.items
    c.push_landed.new.found.items _
    c.loop-cycle-test.true at.invariant c.in_ok-push_landed.ensures
