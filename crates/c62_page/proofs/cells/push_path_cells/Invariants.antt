use Rattle.std.proofs.Common.{◌≡◌, ◌++◌, drop}
use Rattle.std.specs.Prelude.{find}
use Rattle.std.specs.List.{flat_map}
use Rattle.c62_grid.specs.Paths.{all_paths, takes}
use Rattle.c62_markup.specs.Page.{page}
use Rattle.c62_page.specs.Cells.{path_cell, path_cells}
use Rattle.c62_page.proofs.cells.push_path_cells.Given as goal

abbrev pub invariant-loop-path : goal.invariant-loop-path
invariant-loop-path l =
    l.out.items ++ page (flat_map (λ path. path_cell (find (takes path) l.issued)) (drop l.path-index all_paths))
    ≡ l.fn.out.items ++ page (path_cells l.issued)
