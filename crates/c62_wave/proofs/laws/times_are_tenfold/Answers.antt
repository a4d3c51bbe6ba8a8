use Rattle.c62_wave.proofs.Times.{is_time}
use Rattle.c62_wave.proofs.laws.times_are_tenfold.Goals as goal

pub returns : goal.returns
returns c = λ cycle more some digit fits. is_time cycle more some digit fits
