use Rattle.c62_reach.specs.Reach.{part_meant}
use Rattle.c62_reach.proofs.PartLemmas.{named_more}
use Rattle.c62_reach.proofs.search.push_all_named.Goals as goal

pub loop-name-preserved : goal.loop-name-preserved
loop-name-preserved c parts indexed =
    named_more (λ name. part_meant c.args.file name parts) c.args.names.now c.loop-name.name-index c.name-item.result
    c.args.leads.now.items c.loop-name.leads.items c.push_named.new.leads.items c.part_meant.result c.loop-name-test.true
    c.name-item.is (c.loop-name.invariant parts indexed) (c.part_meant.ensures parts indexed)
    c.in_ok-push_named.ensures
