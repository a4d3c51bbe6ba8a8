use Rattle.std.proofs.Common.{◌≡◌, ◌++◌, drop}
use Rattle.std.specs.Prelude.{find}
use Rattle.std.specs.List.{flat_map}
use Rattle.c62_op.specs.Units.{all_units}
use Rattle.c62_grid.specs.Grid.{is_on}
use Rattle.c62_markup.specs.Page.{page}
use Rattle.c62_page.specs.Cells.{unit_cell, unit_cells}
use Rattle.c62_page.proofs.cells.push_unit_cells.Given as goal

abbrev pub invariant-loop-unit : goal.invariant-loop-unit
invariant-loop-unit l =
    l.out.items ++ page (flat_map (λ unit. unit_cell l.path (find (is_on unit) l.issued)) (drop l.unit-index all_units))
    ≡ l.fn.out.items ++ page (unit_cells l.path l.issued)
