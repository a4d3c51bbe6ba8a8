use Rattle.c62_program.proofs.Taught.{ran_more}
use Rattle.c62_program.specs.Teaching.{behind_words}
use Rattle.c62_program.proofs.teaching.run_nothing.Goals as goal

pub returns : goal.returns
returns g c =
    ran_more c.args.isa c.write_whole.result _ (behind_words c.args.blamed.now) _ _ _ _ _ _ c.run_tool-status.ensures
    (rw c.behind_words.ensures at c.write_whole.ensures)
