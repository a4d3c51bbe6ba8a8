use Rattle.std.specs.Prelude.{string_bytes}
use Rattle.c62_grid.specs.Paths.{all_paths, path_use}
use Rattle.c62_grid.proofs.Drawing.{one_element}
use Rattle.c62_grid.proofs.paths.push_path_uses.Goals as goal

pub loop-path-preserved : goal.loop-path-preserved
loop-path-preserved c =
    let at = c.loop-path in
    one_element (path_use c.args.widths c.args.cycles c.args.placed.now) all_paths at.path-index _ (string_bytes at.row)
    (string_bytes c.push_path_use.new.row) _ c.loop-path-test.true at.invariant c.in_ok-push_path_use.ensures
