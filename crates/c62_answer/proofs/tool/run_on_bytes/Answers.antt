use Rattle.std.proofs.Common.{map}
use Rattle.c62_answer.proofs.WholeRuns.{on_bytes}
use Rattle.c62_answer.proofs.tool.run_on_bytes.Goals as goal

pub returns : goal.returns
returns g c =
    let run = c.run_tool-status in
    on_bytes c.args.isa (map g.S.AsStr.text c.args.words.now) c.args.input.now run.new.reader.now run.new.output.items
    run.new.errors.items run.result
    (rw (c.new-output.ensures.items, c.new-errors.ensures.items) at run.ensures)
