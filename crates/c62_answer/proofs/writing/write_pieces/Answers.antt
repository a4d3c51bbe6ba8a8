use Rattle.std.proofs.Common.{rules}
use Rattle.c62_answer.proofs.Telling.{cut_off}
use Rattle.c62_answer.proofs.writing.write_pieces.Goals as goal

pub returns-in-Err : goal.returns-in-Err
returns-in-Err g c =
    cut_off (g.W.Write.contents c.args.stream.now) (g.W.Write.contents c.loop-piece.stream)
    (g.W.Write.contents c.write_whole.new.stream) c.args.pieces.now
    c.loop-piece.piece-index _ c.as_bytes.result.now (search rules) c.as_bytes.ensures.value c.loop-piece.invariant
    c.in-Err.ensures
