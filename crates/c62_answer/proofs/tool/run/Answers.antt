use Rattle.std.proofs.Common.{map}
use Rattle.std.proofs.lemmas.Result.{err_from_is_err_and}
use Rattle.c62_answer.proofs.Runs.{blamed}
use Rattle.c62_answer.proofs.tool.run.Goals as goal

pub returns-in_err-command-clause-err : goal.returns-in_err-command-clause-err
returns-in_err-command-clause-err g c =
    let p = err_from_is_err_and c.from_residual.result c.from_residual.ensures.1 in
    rw p.1
    (blamed c.args.isa c.in_err-command.field-0.0 p.0 (map g.S.AsStr.text c.args.words.now)
    (g.R.Read.remaining c.args.reader.now)
    (g.W.Write.contents c.args.output.now) p.2 c.in_err-command.ensures.refused)
