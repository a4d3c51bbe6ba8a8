use Rattle.c62_check_whole.proofs.LinedFlights.{fly_alike}
use Rattle.c62_check_whole.proofs.laws.lines_are_names.Goals as goal

pub returns : goal.returns
returns c = fly_alike
