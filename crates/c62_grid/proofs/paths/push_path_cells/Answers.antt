use Rattle.std.proofs.Common.{◌∙◌, ◌++◌, Option, ap}
use Rattle.std.specs.Prelude.{find, string_bytes}
use Rattle.c62_packet.specs.declared.placed.Placed.{Placed}
use Rattle.c62_grid.specs.Paths.{all_paths, path_cell, takes}
use Rattle.c62_grid.proofs.Drawing.{one_element}
use Rattle.c62_grid.proofs.paths.push_path_cells.Goals as goal

pub loop-path-preserved : goal.loop-path-preserved
loop-path-preserved c =
    let at = c.loop-path in
    let found = ap (λ (taking : Option Placed). string_bytes at.row ++ path_cell c.args.widths taking) c.taking.ensures
    in
    one_element (λ path. path_cell c.args.widths (find (takes path) c.args.issued.now)) all_paths at.path-index _
    (string_bytes at.row)
    (string_bytes c.push_path_cell.new.row) _ c.loop-path-test.true at.invariant (c.in_ok-push_path_cell.ensures
    ∙ found)
