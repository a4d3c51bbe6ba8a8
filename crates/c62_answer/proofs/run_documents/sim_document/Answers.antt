use Rattle.c62_answer.proofs.RunsDocumented.{sim_documented}
use Rattle.c62_answer.proofs.run_documents.sim_document.Goals as goal

pub returns : goal.returns
returns c =
    let start = c.args.start.now in
    let told = c.in_ok-packets_told in
    sim_documented c.args.isa c.args.form start.course start.settings.items told.field-0.outcome c.args.text.now
    told.field-0.text.items c.in_ok-packets.packets c.in_ok-packets.ensures.packets told.ensures
