use Rattle.std.proofs.Common.{take}
use Rattle.std.specs.Io.KnownBytes.{Appends}
use Rattle.c62_answer.specs.Message.{joined}
use Rattle.c62_answer.proofs.writing.write_pieces.Given as goal

abbrev pub invariant-loop-piece : goal.invariant-loop-piece
invariant-loop-piece g l = Appends (g.W.Write.contents l.initial.stream) (g.W.Write.contents l.stream)
    (joined (take l.piece-index l.pieces))
