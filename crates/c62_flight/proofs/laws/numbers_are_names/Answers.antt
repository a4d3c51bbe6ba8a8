use Rattle.c62_flight.proofs.Numbered.{fly_the_same}
use Rattle.c62_flight.proofs.laws.numbers_are_names.Goals as goal

pub returns : goal.returns
returns c = fly_the_same
