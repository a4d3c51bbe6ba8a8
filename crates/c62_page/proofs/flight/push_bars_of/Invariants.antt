use Rattle.std.proofs.Common.{◌≡◌, ◌++◌, drop}
use Rattle.std.specs.List.{flat_map}
use Rattle.c62_markup.specs.Page.{page}
use Rattle.c62_page.specs.Flight.{bar}
use Rattle.c62_page.proofs.flight.push_bars_of.Given as goal

abbrev pub invariant-loop-each : goal.invariant-loop-each
invariant-loop-each l =
    l.out.items ++ page (flat_map (bar l.placed.line l.placed.cycle) (drop l.each-index l.found))
    ≡ l.fn.out.items ++ page (flat_map (bar l.placed.line l.placed.cycle) l.found)
