use Rattle.c62_flight.proofs.Told.{words_told}
use Rattle.c62_flight.proofs.laws.words_name_rows.Goals as goal

pub returns : goal.returns
returns c = words_told
