use Rattle.c62_meaning.proofs.Acting.{same_act}
use Rattle.c62_meaning.proofs.laws.acts_alike_on_all_units.Goals as goal

pub returns : goal.returns
returns c = λ one other same base word byte. same_act one other base word byte same
