use Rattle.c62_markup.proofs.Escaped.{opens_nothing}
use Rattle.c62_markup.proofs.laws.texts_open_nothing.Goals as goal

pub returns : goal.returns
returns c = opens_nothing
