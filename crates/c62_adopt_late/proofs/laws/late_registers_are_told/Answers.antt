use Rattle.c62_adopt_late.proofs.Told.{late_is_told}
use Rattle.c62_adopt_late.proofs.laws.late_registers_are_told.Goals as goal

pub returns : goal.returns
returns c = late_is_told
