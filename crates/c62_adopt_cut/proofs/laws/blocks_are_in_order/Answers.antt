use Rattle.c62_adopt_cut.proofs.OrderLemmas.{blocks_are_in_order}
use Rattle.c62_adopt_cut.proofs.laws.blocks_are_in_order.Goals as goal

pub returns : goal.returns
returns c = blocks_are_in_order
