use Rattle.c62_wave.proofs.Shown.{leaves_out}
use Rattle.c62_wave.proofs.laws.changes_are_written.Goals as goal

pub returns : goal.returns
returns c = λ code before now same. leaves_out code before now same
