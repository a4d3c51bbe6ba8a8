use Rattle.c62_trace.proofs.Telling.{told_more, told_no_more}
use Rattle.c62_trace.proofs.stream.tell.Goals as goal

pub returns-in-Ok : goal.returns-in-Ok
returns-in-Ok g c =
    rw c.in-Ok.is (told_more _ c.write_whole.result (g.W.Write.contents c.args.stream.now)
    (g.W.Write.contents c.write_whole.new.stream) c.args.bytes.now c.write_whole.ensures)

pub returns-in-Err : goal.returns-in-Err
returns-in-Err g c =
    rw c.in-Err.is (told_no_more c.in-Err.refused (g.W.Write.contents c.args.stream.now) c.args.bytes.now)
