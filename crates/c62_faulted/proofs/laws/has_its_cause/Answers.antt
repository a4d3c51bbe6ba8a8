use Rattle.c62_faulted.proofs.LineLemmas.{its_cause}
use Rattle.c62_faulted.proofs.laws.has_its_cause.Goals as goal

pub returns : goal.returns
returns c = its_cause
