use Rattle.c62_answer.proofs.WholeRuns.{told_tells}
use Rattle.c62_program.proofs.labels.tell_labels.Goals as goal

pub returns-clause-said : goal.returns-clause-said
returns-clause-said g c =
    told_tells c.write_whole.result _ _ _ (rw c.as_bytes.ensures.value at c.write_whole.ensures)
