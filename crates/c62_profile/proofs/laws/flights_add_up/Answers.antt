use Rattle.c62_profile.proofs.Flown.{flight_adds_up}
use Rattle.c62_profile.proofs.laws.flights_add_up.Goals as goal

pub returns : goal.returns
returns c = flight_adds_up
