use Rattle.std.specs.Prelude.{option_map}
use Rattle.c62_command.specs.CommandLine.{FlightReport}
use Rattle.c62_answer.proofs.Documented.{reached_document}
use Rattle.c62_answer.proofs.run_documents.exec_from.Goals as goal

pub returns-in-Ok : goal.returns-in-Ok
returns-in-Ok c =
    let start = c.args.start.now in
    reached_document c.args.isa
    (FlightReport start.course (option_map (λ name. name.items) start.from) start.settings.items)
    c.args.name.now c.args.text.now c.in-Ok.taken.items c.exec_told.result c.in-Ok.ensures
    (rw c.deref.ensures.value at c.exec_told.ensures)
