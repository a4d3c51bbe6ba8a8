use Rattle.c62_answer.proofs.Looping.{unread_again}
use Rattle.c62_answer.proofs.pipelining.run_again.Goals as goal

pub returns-in-Err : goal.returns-in-Err
returns-in-Err c = λ packing trips apart text is.
    let flight = c.args.flight.now in
    let looped = c.args.looped.now in
    unread_again c.args.isa c.args.verbose packing trips apart flight.course flight.settings.items text looped.program
    looped.written c.in-Err.fault c.from.result is c.from.ensures c.in-Err.ensures
