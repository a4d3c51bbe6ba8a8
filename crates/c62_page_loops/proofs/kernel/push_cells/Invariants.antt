use Rattle.std.proofs.Common.{◌≡◌, ◌++◌, drop}
use Rattle.std.specs.Prelude.{find}
use Rattle.std.specs.List.{flat_map}
use Rattle.c62_op.specs.Units.{all_units}
use Rattle.c62_grid.specs.Grid.{is_on}
use Rattle.c62_markup.specs.Page.{page}
use Rattle.c62_page_loops.specs.Kernel.{unit_cell, unit_cells}
use Rattle.c62_page_loops.proofs.kernel.push_cells.Given as goal

abbrev pub invariant-loop-unit : goal.invariant-loop-unit
invariant-loop-unit l =
    l.out.items
    ++ page (flat_map (λ unit. unit_cell l.epilog (find (is_on unit) l.issued)) (drop l.unit-index all_units))
    ≡ l.fn.out.items ++ page (unit_cells l.epilog l.issued)
