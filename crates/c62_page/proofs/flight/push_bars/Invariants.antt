use Rattle.std.proofs.Common.{◌≡◌, ◌++◌, drop}
use Rattle.c62_markup.specs.Page.{page}
use Rattle.c62_page.specs.Flight.{bars}
use Rattle.c62_page.proofs.flight.push_bars.Given as goal

abbrev pub invariant-loop-each : goal.invariant-loop-each
invariant-loop-each l = l.out.items ++ page (bars (drop l.each-index l.placed)) ≡ l.fn.out.items ++ page (bars l.placed)
