use Rattle.c62_check_loops.proofs.Readers.{found_more}
use Rattle.c62_check_loops.proofs.reading.line_reading.Goals as goal

pub loop-preserved : goal.loop-preserved
loop-preserved c = found_more c.args.blocks.now c.args.reg c.loop.counter c.loop.found.items c.in_ok-found.found.items
    c.loop.invariant (rw c.deref.ensures.value at c.in_ok-found.ensures)
