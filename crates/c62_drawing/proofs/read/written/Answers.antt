use Rattle.c62_drawing.proofs.Reading.{stands}
use Rattle.c62_drawing.proofs.read.written.Goals as goal

pub returns-in-Ok-clause-found : goal.returns-in-Ok-clause-found
returns-in-Ok-clause-found c =
    stands c.args.isa c.args.text.now c.in-Ok.adopted.packets c.in-Ok.adopted.added
    (c.texts_that_stand_lack_nothing.ensures c.args.isa c.args.text.now c.in-Ok.adopted.packets) c.in-Ok.ensures.adopted
