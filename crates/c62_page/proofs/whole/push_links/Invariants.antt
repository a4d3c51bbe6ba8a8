use Rattle.std.proofs.Common.{◌≡◌, ◌++◌, drop}
use Rattle.c62_markup.specs.Page.{page}
use Rattle.c62_page.specs.Page.{links_from}
use Rattle.c62_page.proofs.whole.push_links.Given as goal

abbrev pub invariant-loop-each : goal.invariant-loop-each
invariant-loop-each l =
    (l.out.items ++ page (links_from l.number (drop l.each-index l.shown))
    ≡ l.fn.out.items ++ page (links_from 0 l.shown))
    × (l.number ≡ l.each-index)
