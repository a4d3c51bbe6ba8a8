use Rattle.std.proofs.Common.{Some}
use Rattle.c62_program.specs.Teaching.{behind_text}
use Rattle.c62_program.proofs.Taught.{ran_more}
use Rattle.c62_program.proofs.teaching.run_on.Goals as goal

pub returns : goal.returns
returns g c = (
  Some c.run_tool-status.new.reader.now,
  ran_more c.args.isa c.write_whole.result _ (behind_text c.args.told.now.refused.items
      c.args.told.now.apart.lines.items c.args.told.now.faulted.items) _ _ _ _ _ _
      c.run_tool-status.ensures (rw c.behind.ensures at c.write_whole.ensures),
)
