use Rattle.c62_pack.proofs.Headlines.{headline}
use Rattle.c62_pack.proofs.laws.headline.Goals as goal

pub returns : goal.returns
returns c = headline
