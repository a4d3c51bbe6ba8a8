use Rattle.c62_reach.proofs.IndexLemmas.{next_indexed}
use Rattle.c62_reach.proofs.index.Index.new.Goals as goal

pub loop-k-preserved : goal.loop-k-preserved
loop-k-preserved c =
    next_indexed c.args.parts.now c.loop-k.k c.index-parts-k.result c.loop-k.index c.add.new.self c.loop-k-test.true
    c.index-parts-k.is c.loop-k.invariant c.in_ok-add.ensures
