use Rattle.std.proofs.Common.{◌≡◌, ◌++◌, map, drop}
use Rattle.c62_files.specs.Words.{pieces, text_piece, wanted_at_end}
use Rattle.c62_files.proofs.piece.pieces_of.Given as goal

abbrev pub invariant-loop-word : goal.invariant-loop-word
invariant-loop-word g l = record {
  pieces : map text_piece l.pieces.items ++ pieces l.wanted (map g.S.AsStr.text (drop l.word-index l.words)) ≡ pieces
      l.fn.wanted (map g.S.AsStr.text l.words);
  wanted : wanted_at_end l.wanted (map g.S.AsStr.text (drop l.word-index l.words)) ≡ wanted_at_end l.fn.wanted
      (map g.S.AsStr.text l.words);
}
