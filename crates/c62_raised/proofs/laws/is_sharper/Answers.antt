use Rattle.c62_raised.proofs.Sharper.{is_sharper}
use Rattle.c62_raised.proofs.laws.is_sharper.Goals as goal

pub returns : goal.returns
returns c = is_sharper
