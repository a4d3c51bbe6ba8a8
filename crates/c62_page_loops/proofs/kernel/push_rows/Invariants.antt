use Rattle.std.proofs.Common.{◌≡◌, ◌++◌, drop}
use Rattle.c62_markup.specs.Page.{page}
use Rattle.c62_page_loops.specs.Kernel.{rows_from}
use Rattle.c62_page_loops.proofs.kernel.push_rows.Given as goal

abbrev pub invariant-loop-row : goal.invariant-loop-row
invariant-loop-row l =
    l.out.items ++ page (rows_from l.epilog l.cycle (drop l.row-index l.kernel))
    ≡ l.fn.out.items ++ page (rows_from l.epilog 0 l.kernel)
