use Rattle.c62_answer.proofs.RunsDocumented.{loops_documented}
use Rattle.c62_answer.proofs.run_documents.loops_told.Goals as goal

pub returns : goal.returns
returns c = λ packing trips apart text is.
    let flight = c.args.flight.now in
    let looped = c.args.looped.now in
    loops_documented c.args.isa c.args.verbose packing trips apart flight.course flight.settings.items c.in_ok-told.told
    text
    c.in_ok-reply.reply.text.items looped.program looped.written c.args.begun.now c.in_ok-reply.reply.outcome
    c.breach.result c.breach.ensures is
    c.requires c.in_ok-told.ensures (rw c.deref.ensures.value at c.in_ok-reply.ensures)
