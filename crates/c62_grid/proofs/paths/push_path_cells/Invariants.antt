use Rattle.std.proofs.Common.{◌≡◌, ◌++◌, drop}
use Rattle.std.specs.Prelude.{find, string_bytes}
use Rattle.std.specs.List.{flat_map}
use Rattle.c62_grid.specs.Paths.{all_paths, path_cell, path_cells, takes}
use Rattle.c62_grid.proofs.paths.push_path_cells.Given as goal

abbrev pub invariant-loop-path : goal.invariant-loop-path
invariant-loop-path l =
    string_bytes l.row ++ flat_map (λ path. path_cell l.widths (find (takes path) l.issued))
    (drop l.path-index all_paths)
    ≡ string_bytes l.fn.row ++ path_cells l.widths l.issued
