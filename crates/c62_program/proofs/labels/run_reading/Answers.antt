use Rattle.std.proofs.Common.{◌∙◌, sym}
use Rattle.c62_program.proofs.labels.run_reading.Goals as goal

pub returns-then-asks_labels : goal.returns-then-asks_labels
returns-then-asks_labels g c = rw (sym c.asks_labels.ensures ∙ c.if-asks_labels.true) c.run_by_labels.ensures

pub returns : goal.returns
returns g c = rw (sym c.asks_labels.ensures ∙ c.if-asks_labels.false) c.run_with.ensures
