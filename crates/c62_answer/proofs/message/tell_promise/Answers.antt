use Rattle.c62_answer.proofs.message.tell_promise.Goals as goal

pub returns-in-Apart : goal.returns-in-Apart
returns-in-Apart g c = rw c.in-Apart.is c.write_whole.ensures
