use Rattle.c62_check.proofs.Serially.{says_same}
use Rattle.c62_check.proofs.laws.checks_are_exact.Goals as goal

pub returns : goal.returns
returns c = says_same
