use Rattle.c62_packet.proofs.block.PacketBlock.new.Goals as goal

pub first_broken-requires-clause-in_order : goal.first_broken-requires-clause-in_order
first_broken-requires-clause-in_order c = rw c.deref-3.ensures.value c.requires.in_order
