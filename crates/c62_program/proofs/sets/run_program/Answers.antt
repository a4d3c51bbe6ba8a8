use Rattle.std.proofs.Common.{◌∙◌, sym}
use Rattle.c62_program.proofs.sets.run_program.Goals as goal

pub returns-then-asks_set : goal.returns-then-asks_set
returns-then-asks_set g c = rw (sym c.asks_set.ensures ∙ c.if-asks_set.true) c.run_by_set.ensures

pub returns : goal.returns
returns g c = rw (sym c.asks_set.ensures ∙ c.if-asks_set.false) c.run_reading.ensures
