use Rattle.c62_apart.proofs.Telling.{told_block}
use Rattle.c62_apart.proofs.sentence.push_loops.Goals as goal

pub loop-number-preserved : goal.loop-number-preserved
loop-number-preserved c =
    told_block c.args.base c.args.blocks.now c.args.met.now c.loop-number.number c.args.out.now.items
    c.loop-number.out.items
    c.push_block.new.out.items c.loop-number.invariant c.in_ok-push_block.ensures
