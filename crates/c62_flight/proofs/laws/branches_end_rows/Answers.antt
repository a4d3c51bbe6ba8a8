use Rattle.c62_flight.proofs.Told.{turn_told, over_told}
use Rattle.c62_flight.proofs.laws.branches_end_rows.Goals as goal

pub returns : goal.returns
returns c = record { turns = turn_told; over = over_told }
