use Rattle.c62_command.specs.CommandLine.{LoopReport}
use Rattle.c62_answer.proofs.Documented.{refused_too}
use Rattle.c62_answer.proofs.Looping.{unread_again}
use Rattle.c62_answer.proofs.run_documents.loops_run.Goals as goal

pub returns-in-Err : goal.returns-in-Err
returns-in-Err c = λ packing trips apart text is.
    let flight = c.args.flight.now in
    let looped = c.args.looped.now in
    refused_too c.args.isa (LoopReport c.args.verbose packing trips apart flight.course flight.settings.items) text
    c.from.result
    (unread_again c.args.isa c.args.verbose packing trips apart flight.course flight.settings.items text looped.program
    looped.written c.in-Err.fault c.from.result is c.from.ensures c.in-Err.ensures)
