use Rattle.c62_traced.proofs.row.run_row.Goals as goal

pub returns-clause-passed : goal.returns-clause-passed
returns-clause-passed g c = rw (c.insns_of.ensures, c.idle_of.ensures) at c.run_insns.ensures.passed
