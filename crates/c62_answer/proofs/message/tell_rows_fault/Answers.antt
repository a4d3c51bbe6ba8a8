use Rattle.c62_answer.proofs.message.tell_rows_fault.Goals as goal

pub returns-in-From : goal.returns-in-From
returns-in-From g c = rw c.in-From.is c.write_pieces.ensures
