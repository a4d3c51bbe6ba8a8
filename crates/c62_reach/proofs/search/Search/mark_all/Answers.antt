use Rattle.std.proofs.Common.{◌∙◌, sym}
use Rattle.c62_reach.specs.Search.{found_of}
use Rattle.c62_reach.proofs.Graph.{marked_first, marked_last}
use Rattle.c62_reach.proofs.search.Search.mark_all.Goals as goal

pub loop-k-preserved : goal.loop-k-preserved
loop-k-preserved c =
    marked_first c.args.numbers.now c.loop-k.k-index (found_of c.loop-k.self) (found_of c.mark.new.self)
    c.loop-k-test.true c.in_ok-mark.ensures ∙ c.loop-k.invariant

pub returns : goal.returns
returns c = sym (marked_last c.args.numbers.now c.loop-k.k-index (found_of c.loop-k.self) c.loop-k-test.false)
    ∙ c.loop-k.invariant
