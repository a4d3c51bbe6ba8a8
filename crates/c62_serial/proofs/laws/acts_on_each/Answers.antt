use Rattle.c62_serial.proofs.MachineLemmas.{acts_on_each}
use Rattle.c62_serial.proofs.laws.acts_on_each.Goals as goal

pub returns : goal.returns
returns c = acts_on_each
