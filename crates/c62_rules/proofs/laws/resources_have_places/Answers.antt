use Rattle.c62_rules.proofs.Places.{own-place, rule-here, capacity-here}
use Rattle.c62_rules.proofs.laws.resources_have_places.Goals as goal

pub returns : goal.returns
returns c = λ r. record { own = λ other. own-place other r; rule = rule-here r; capacity = capacity-here r }
