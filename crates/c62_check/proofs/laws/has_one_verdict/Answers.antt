use Rattle.c62_check.proofs.OneText.{one_text}
use Rattle.c62_check.proofs.OneVerdict.{one_verdict}
use Rattle.c62_check.proofs.laws.has_one_verdict.Goals as goal

pub returns-clause-block : goal.returns-clause-block
returns-clause-block c = one_verdict

pub returns-clause-text : goal.returns-clause-text
returns-clause-text c = one_text
