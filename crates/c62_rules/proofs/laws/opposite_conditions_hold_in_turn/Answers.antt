use Rattle.c62_rules.proofs.Exclusive.{opposite-either}
use Rattle.c62_rules.proofs.laws.opposite_conditions_hold_in_turn.Goals as goal

pub returns : goal.returns
returns c = opposite-either
