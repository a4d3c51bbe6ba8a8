use Rattle.c62_bound.proofs.Needs.{no_seating_shorter}
use Rattle.c62_bound.proofs.laws.no_seating_is_shorter.Goals as goal

pub returns : goal.returns
returns c = no_seating_shorter
