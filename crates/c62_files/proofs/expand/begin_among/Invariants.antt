use Rattle.std.proofs.Common.{◌≡◌, drop, map}
use Rattle.std.specs.Prelude.{fold}
use Rattle.c62_files.specs.Words.{text_piece}
use Rattle.c62_files.specs.Expand.{begin_after, begin_among}
use Rattle.c62_files.proofs.expand.begin_among.Given as goal

abbrev pub invariant-loop-piece : goal.invariant-loop-piece
invariant-loop-piece l = fold begin_after l.base (map text_piece (drop l.piece-index l.pieces)) ≡ begin_among
    (map text_piece l.pieces)
