use Rattle.c62_packet.proofs.Targets.{closed_has}
use Rattle.c62_packet.proofs.packets.Packets.closed.Goals as goal

pub returns-clause-targets : goal.returns-clause-targets
returns-clause-targets c = rw (c.are_closed.ensures, c.blocks-2.ensures.same) (closed_has c.args.self.now)
