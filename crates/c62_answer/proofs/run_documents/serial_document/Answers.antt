use Rattle.c62_answer.proofs.RunsDocumented.{serial_documented}
use Rattle.c62_answer.proofs.run_documents.serial_document.Goals as goal

pub returns : goal.returns
returns c =
    let start = c.args.start.now in
    let told = c.in_ok-serial_told in
    serial_documented c.args.isa start.course start.settings.items c.args._apart.now.items told.field-0.outcome
    c.args.text.now
    told.field-0.text.items c.in_ok-program.program c.in_ok-program.ensures told.ensures
