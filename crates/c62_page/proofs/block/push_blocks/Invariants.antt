use Rattle.std.proofs.Common.{◌≡◌, ◌++◌, drop}
use Rattle.c62_markup.specs.Page.{page}
use Rattle.c62_page.specs.Block.{blocks_from}
use Rattle.c62_page.proofs.block.push_blocks.Given as goal

abbrev pub invariant-loop-each : goal.invariant-loop-each
invariant-loop-each l =
    (l.out.items ++ page (blocks_from l.number (drop l.each-index l.shown))
    ≡ l.fn.out.items ++ page (blocks_from 0 l.shown))
    × (l.number ≡ l.each-index)
