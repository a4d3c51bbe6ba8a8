use Rattle.std.proofs.Common.{refl}
use Rattle.std.proofs.KnownBytes.{Appends-kept}
use Rattle.c62_answer.proofs.Telling.{whole_told}
use Rattle.c62_answer.proofs.tool.write_out.Goals as goal

pub returns-in-Err-flush-clause-err : goal.returns-in-Err-flush-clause-err
returns-in-Err-flush-clause-err g c = (
  refl,
  whole_told (g.W.Write.contents c.args.output.now) (g.W.Write.contents c.flush.new.self) c.args.bytes.now
      (Appends-kept (g.W.Write.contents c.args.output.now) (g.W.Write.contents c.write_whole.new.stream)
      (g.W.Write.contents c.flush.new.self) c.args.bytes.now
      c.in-Ok.ensures c.flush.ensures.bytes),
)
