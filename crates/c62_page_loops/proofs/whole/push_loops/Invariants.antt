use Rattle.std.proofs.Common.{◌≡◌, ◌++◌, drop}
use Rattle.c62_markup.specs.Page.{page}
use Rattle.c62_page_loops.specs.Page.{loops_from}
use Rattle.c62_page_loops.proofs.whole.push_loops.Given as goal

abbrev pub invariant-loop-choice : goal.invariant-loop-choice
invariant-loop-choice l =
    (l.out.items ++ page (loops_from l.blocks l.number (drop l.choice-index l.written.loops.items))
    ≡ l.fn.out.items ++ page (loops_from l.blocks 0 l.written.loops.items))
    × (l.number ≡ l.choice-index)
