use Rattle.c62_adopt.proofs.CycleLemmas.{accounts_for_cycles}
use Rattle.c62_adopt.proofs.laws.cycles_are_accounted_for.Goals as goal

pub returns : goal.returns
returns c = accounts_for_cycles
