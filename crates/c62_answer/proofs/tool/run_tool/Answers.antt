use Rattle.std.proofs.Common.{map}
use Rattle.c62_answer.specs.Message.{Tells, told_of}
use Rattle.c62_answer.specs.Run.{streams}
use Rattle.c62_answer.proofs.WholeRuns.{run_weaker, told_tells}
use Rattle.c62_answer.proofs.tool.run_tool.Goals as goal

pub returns : goal.returns
returns g c =
    let ended = c.run_telling.result in
    run_weaker c.args.isa (told_of ended.told) Tells (told_tells ended.told) (map g.S.AsStr.text c.args.words.now)
    (streams (g.R.Read.remaining c.args.reader.now) (g.W.Write.contents c.args.output.now)
    (g.E.Write.contents c.args.errors.now))
    (streams (g.R.Read.remaining c.run_telling.new.reader) (g.W.Write.contents c.run_telling.new.output)
    (g.E.Write.contents c.run_telling.new.errors))
    ended.status c.run_telling.ensures
