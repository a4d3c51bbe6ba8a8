use Rattle.c62_reason.proofs.Reasons.{one_reason}
use Rattle.c62_reason.proofs.laws.reasons_are_one.Goals as goal

pub returns : goal.returns
returns c = one_reason
