use Rattle.std.proofs.Common.{map}
use Rattle.c62_answer.specs.Message.{told_of}
use Rattle.c62_answer.specs.Run.{streams}
use Rattle.c62_answer.proofs.Runs.{done, failed}
use Rattle.c62_answer.proofs.tool.run_telling.Goals as goal

pub returns-in-Ok : goal.returns-in-Ok
returns-in-Ok g c =
    rw c.status.ensures (done c.args.isa (told_of c.tell_outcome.result) (map g.S.AsStr.text c.args.words.now)
    (streams (g.R.Read.remaining c.args.reader.now) (g.W.Write.contents c.args.output.now)
    (g.E.Write.contents c.args.errors.now))
    (streams (g.R.Read.remaining c.run.new.reader) (g.W.Write.contents c.run.new.output)
    (g.E.Write.contents c.tell_outcome.new.errors)) c.in-Ok.outcome
    (record { unread = c.in-Ok.ensures.unread; most = c.in-Ok.ensures.most }) c.tell_outcome.ensures c.in-Ok.ensures.ok)

pub returns-in-Err : goal.returns-in-Err
returns-in-Err g c =
    rw c.status-in-Err.ensures (failed c.args.isa (told_of c.report.result) (map g.S.AsStr.text c.args.words.now)
    (streams (g.R.Read.remaining c.args.reader.now) (g.W.Write.contents c.args.output.now)
    (g.E.Write.contents c.args.errors.now))
    (streams (g.R.Read.remaining c.run.new.reader) (g.W.Write.contents c.run.new.output)
    (g.E.Write.contents c.report.new.errors))
    (record { unread = c.in-Err.ensures.unread; most = c.in-Err.ensures.most }) c.in-Err.failure c.in-Err.ensures.err
    c.report.ensures)
