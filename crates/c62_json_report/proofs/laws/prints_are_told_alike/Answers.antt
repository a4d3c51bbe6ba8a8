use Rattle.c62_json_report.proofs.TellingValues.{prints_told}
use Rattle.c62_json_report.proofs.laws.prints_are_told_alike.Goals as goal

pub returns : goal.returns
returns c = prints_told
