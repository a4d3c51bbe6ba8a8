use Rattle.c62_answer.proofs.pipelining.read_again.Goals as goal

pub returns-in-Err : goal.returns-in-Err
returns-in-Err c = rw c.deref.ensures.value at c.in-Err.ensures
