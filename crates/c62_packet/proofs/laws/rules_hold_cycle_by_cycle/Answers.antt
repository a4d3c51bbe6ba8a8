use Rattle.c62_packet.proofs.Broken.{kept-each}
use Rattle.c62_packet.proofs.laws.rules_hold_cycle_by_cycle.Goals as goal

pub returns : goal.returns
returns c = kept-each
