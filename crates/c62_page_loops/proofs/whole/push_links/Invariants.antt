use Rattle.std.proofs.Common.{◌≡◌, ◌++◌, drop}
use Rattle.c62_markup.specs.Page.{page}
use Rattle.c62_page_loops.specs.Page.{links_from}
use Rattle.c62_page_loops.proofs.whole.push_links.Given as goal

abbrev pub invariant-loop-choice : goal.invariant-loop-choice
invariant-loop-choice l =
    (l.out.items ++ page (links_from l.blocks l.number (drop l.choice-index l.loops))
    ≡ l.fn.out.items ++ page (links_from l.blocks 0 l.loops))
    × (l.number ≡ l.choice-index)
