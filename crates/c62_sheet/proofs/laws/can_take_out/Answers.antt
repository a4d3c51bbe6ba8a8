use Rattle.c62_sheet.proofs.Placing.{lawful_withdrawn}
use Rattle.c62_sheet.proofs.laws.can_take_out.Goals as goal

pub returns : goal.returns
returns c = lawful_withdrawn
