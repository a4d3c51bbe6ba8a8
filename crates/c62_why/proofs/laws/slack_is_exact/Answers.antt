use Rattle.c62_why.proofs.Latest.{slack_exact}
use Rattle.c62_why.proofs.laws.slack_is_exact.Goals as goal

pub returns : goal.returns
returns c = slack_exact
