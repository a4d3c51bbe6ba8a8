use Rattle.c62_sheet.proofs.Empty.{lawful_empty}
use Rattle.c62_sheet.proofs.laws.is_lawful_empty.Goals as goal

pub returns : goal.returns
returns c = lawful_empty
