use Rattle.std.proofs.Common.{◌≡◌, drop, take, map}
use Rattle.std.specs.Prelude.{◌≤◌, string_bytes}
use Rattle.std.specs.List.{count_by}
use Rattle.c62_files.specs.Words.{text_piece}
use Rattle.c62_files.specs.Expand.{IsGrown, is_load}
use Rattle.c62_files.proofs.expand.expanded.Given as goal

abbrev pub invariant-loop-piece : goal.invariant-loop-piece
invariant-loop-piece g l =
    IsGrown l.base (g.F.Folder.holds l.folder) (map text_piece l.pieces) (map string_bytes l.words.items)
    (map text_piece (drop l.piece-index l.pieces))
    × (l.loads ≡ count_by is_load (take l.piece-index (map text_piece l.pieces))) × (l.loads ≤ l.piece-index)
