use Rattle.std.proofs.Common.{◌≡◌, ◌++◌, drop}
use Rattle.std.specs.Prelude.{string_bytes}
use Rattle.std.specs.List.{flat_map}
use Rattle.c62_grid.specs.Paths.{all_paths, path_use, path_uses}
use Rattle.c62_grid.proofs.paths.push_path_uses.Given as goal

abbrev pub invariant-loop-path : goal.invariant-loop-path
invariant-loop-path l =
    string_bytes l.row ++ flat_map (path_use l.widths l.cycles l.placed) (drop l.path-index all_paths) ≡ string_bytes
    l.fn.row ++ path_uses l.widths l.cycles l.placed
