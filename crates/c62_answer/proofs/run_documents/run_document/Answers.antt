use Rattle.c62_answer.proofs.RunsDocumented.{run_documented}
use Rattle.c62_answer.proofs.run_documents.run_document.Goals as goal

pub returns : goal.returns
returns g c =
    let start = c.args.start.now in
    let told = c.in_ok-packets_told in
    run_documented c.args.isa c.args.packing start.course start.settings.items told.field-0.outcome c.args.text.now
    told.field-0.text.items c.in_ok-program.program c.in_ok-packets.packets c.in_ok-program.ensures
    c.in_ok-packets.ensures.packed told.ensures
