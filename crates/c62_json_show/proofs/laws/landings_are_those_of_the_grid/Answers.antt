use Rattle.c62_json_show.proofs.Landed.{are_those}
use Rattle.c62_json_show.proofs.laws.landings_are_those_of_the_grid.Goals as goal

pub returns : goal.returns
returns c = are_those
