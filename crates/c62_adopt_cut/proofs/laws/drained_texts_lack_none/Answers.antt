use Rattle.c62_adopt_cut.proofs.DrainLemmas.{lacks_none_where_over}
use Rattle.c62_adopt_cut.proofs.laws.drained_texts_lack_none.Goals as goal

pub returns : goal.returns
returns c = lacks_none_where_over
