use Rattle.c62_why.proofs.Earlier.{lacking_breaks, enough_kept}
use Rattle.c62_why.proofs.laws.what_is_lacking_breaks_a_rule.Goals as goal

pub returns-clause-lacking : goal.returns-clause-lacking
returns-clause-lacking c = lacking_breaks

pub returns-clause-enough : goal.returns-clause-enough
returns-clause-enough c = enough_kept
