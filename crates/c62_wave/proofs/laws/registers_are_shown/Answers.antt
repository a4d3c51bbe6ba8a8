use Rattle.c62_wave.proofs.Shown.{shows_register}
use Rattle.c62_wave.proofs.laws.registers_are_shown.Goals as goal

pub returns : goal.returns
returns c = λ base registers log reg size. shows_register base registers log reg size
