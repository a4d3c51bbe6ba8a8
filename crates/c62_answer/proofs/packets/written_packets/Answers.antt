use Rattle.c62_answer.proofs.Given.{adopted_stands}
use Rattle.c62_answer.proofs.packets.written_packets.Goals as goal

pub returns-in-Ok-clause-packets : goal.returns-in-Ok-clause-packets
returns-in-Ok-clause-packets c =
    adopted_stands c.args.isa c.args.text.now c.in-Ok.adopted.packets c.in-Ok.adopted.added
    (c.texts_that_stand_lack_nothing.ensures c.args.isa c.args.text.now c.in-Ok.adopted.packets) c.in-Ok.ensures.adopted
