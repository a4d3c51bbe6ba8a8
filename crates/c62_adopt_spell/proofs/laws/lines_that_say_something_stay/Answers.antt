use Rattle.c62_adopt_spell.proofs.SpellLemmas.{stay}
use Rattle.c62_adopt_spell.proofs.laws.lines_that_say_something_stay.Goals as goal

pub returns : goal.returns
returns c = stay
