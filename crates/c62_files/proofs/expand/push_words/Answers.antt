use Rattle.c62_files.proofs.expand.push_words.Goals as goal

pub returns-in-Load-clause-ok : goal.returns-in-Load-clause-ok
returns-in-Load-clause-ok g c = rw c.in-Load.is c.push_load.ensures.ok

pub returns-in-Load-clause-stopped : goal.returns-in-Load-clause-stopped
returns-in-Load-clause-stopped g c = rw c.in-Load.is c.push_load.ensures.stopped
