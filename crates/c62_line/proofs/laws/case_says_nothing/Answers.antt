use Rattle.c62_line.proofs.CaseLines.{case_nothing}
use Rattle.c62_line.proofs.laws.case_says_nothing.Goals as goal

pub returns : goal.returns
returns c = case_nothing
