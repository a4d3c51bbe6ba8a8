use Rattle.c62_answer.proofs.run_documents.exec_document.Goals as goal

pub returns-in-Some : goal.returns-in-Some
returns-in-Some c =
    rw (c.if-start.true, c.in-Some.is) (rw c.in-Some.is at (rw c.deref.ensures.value at c.exec_from.ensures))

pub returns-in-None : goal.returns-in-None
returns-in-None c = rw (c.if-start.true, c.in-None.is) (rw c.in-None.is at c.exec_told.ensures)

pub returns-else-start : goal.returns-else-start
returns-else-start c = rw c.if-start.false c.exec_told-else-start.ensures
