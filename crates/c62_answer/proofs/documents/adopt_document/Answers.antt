use Rattle.c62_answer.proofs.documents.adopt_document.Goals as goal

pub returns-in-Some : goal.returns-in-Some
returns-in-Some c = rw c.in-Some.is (rw c.deref.ensures.value at c.adopted_from.ensures)

pub returns-in-None : goal.returns-in-None
returns-in-None c = rw c.in-None.is c.adopted.ensures
