use Rattle.c62_depend.proofs.Common.{[]}
use Rattle.c62_depend.proofs.Lists.{lists_more}
use Rattle.c62_depend.proofs.direct.no_links.Goals as goal

pub loop-preserved : goal.loop-preserved
loop-preserved c =
    lists_more (λ i. []) c.loop.counter c.loop.all.items c.push.new.self.items c.new.result c.loop.invariant
    c.new.ensures.items c.in_ok-push.ensures.items
