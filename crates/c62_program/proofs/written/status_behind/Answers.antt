use Rattle.std.proofs.Common.{refl}
use Rattle.c62_answer.proofs.WholeRuns.{told_tells}
use Rattle.c62_program.proofs.written.status_behind.Goals as goal

pub returns-in-Err : goal.returns-in-Err
returns-in-Err g c = rw c.in-Err.is (refl, told_tells c.write_whole.result _ _ _ c.write_whole.ensures)
