use Rattle.c62_wave.proofs.Ages.{stays}
use Rattle.c62_wave.proofs.laws.stays_in_flight.Goals as goal

pub returns : goal.returns
returns c = λ recent few. stays recent few
