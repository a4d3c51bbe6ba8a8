use Rattle.c62_adopt_spell.proofs.LocalLemmas.{apart}
use Rattle.c62_adopt_spell.proofs.laws.local_names_are_apart.Goals as goal

pub returns : goal.returns
returns c = apart
