use Rattle.std.proofs.Common.{◌∙◌, ◌++◌, List, ℕ, ap}
use Rattle.std.specs.Prelude.{string_bytes}
use Rattle.c62_grid.specs.Paths.{all_paths, path_name, path_word}
use Rattle.c62_grid.proofs.Drawing.{one_element}
use Rattle.c62_grid.proofs.paths.push_path_names.Goals as goal

pub loop-path-preserved : goal.loop-path-preserved
loop-path-preserved c =
    let at = c.loop-path in
    let named = ap (λ (word : List ℕ). string_bytes at.row ++ path_word c.args.widths word) c.path_name.ensures in
    one_element (λ path. path_word c.args.widths (path_name path)) all_paths at.path-index _ (string_bytes at.row)
    (string_bytes c.push_path_word.new.row) _ c.loop-path-test.true at.invariant (c.in_ok-push_path_word.ensures
    ∙ named)
