use Rattle.c62_adopt_spell.proofs.LocalLemmas.{nowhere}
use Rattle.c62_adopt_spell.proofs.laws.local_names_stand_nowhere.Goals as goal

pub returns : goal.returns
returns c = nowhere
