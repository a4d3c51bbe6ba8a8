use Rattle.c62_check_loops.proofs.Telling.{loops_told}
use Rattle.c62_check_loops.proofs.told.check_loops.Goals as goal

pub returns : goal.returns
returns c = loops_told _ _ _ _ c.in_ok-judged.judged c.in_ok-text.text.items c.in_ok-judged.ensures
    (rw c.blocks-2.ensures.same at c.in_ok-text.ensures)
