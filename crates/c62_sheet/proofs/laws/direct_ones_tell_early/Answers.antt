use Rattle.c62_sheet.proofs.Founding.{direct_ones_tell_early}
use Rattle.c62_sheet.proofs.laws.direct_ones_tell_early.Goals as goal

pub returns : goal.returns
returns c = direct_ones_tell_early
