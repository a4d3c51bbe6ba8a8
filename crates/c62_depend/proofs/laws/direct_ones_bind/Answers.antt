use Rattle.c62_depend.proofs.AllRelays.{direct_ones_bind}
use Rattle.c62_depend.proofs.laws.direct_ones_bind.Goals as goal

pub returns : goal.returns
returns c = direct_ones_bind
