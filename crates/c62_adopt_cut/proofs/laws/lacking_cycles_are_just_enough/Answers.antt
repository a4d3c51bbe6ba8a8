use Rattle.c62_adopt_cut.proofs.DrainLemmas.{is_just_drained}
use Rattle.c62_adopt_cut.proofs.laws.lacking_cycles_are_just_enough.Goals as goal

pub returns : goal.returns
returns c = is_just_drained
