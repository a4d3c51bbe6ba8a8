use Rattle.std.proofs.Common.{map}
use Rattle.c62_command.specs.Promises.{trips_of}
use Rattle.c62_answer.proofs.Looping.{looped_text}
use Rattle.c62_answer.proofs.pipelining.make_looped.Goals as goal

pub returns-clause-ok : goal.returns-clause-ok
returns-clause-ok g c =
    let promises = c.args.looping.now.promises in
    looped_text c.args.isa c.args.looping.now.packing
    (map trips_of promises.trips.items) promises.apart.items c.args.text.now
    c.in-Ok.program c.in-Ok-program_of.again c.in_ok-packets.packets c.in_ok-written.written c.in-Ok.ensures.says
    c.in-Ok.ensures.named c.in-Ok-program_of.ensures c.in_ok-packets.ensures.packed c.in_ok-written.ensures
