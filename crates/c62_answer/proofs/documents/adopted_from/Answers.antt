use Rattle.c62_command.specs.CommandLine.{Adoption}
use Rattle.c62_answer.proofs.Documented.{reached_document}
use Rattle.c62_answer.proofs.documents.adopted_from.Goals as goal

pub returns-in-Ok : goal.returns-in-Ok
returns-in-Ok c =
    reached_document c.args.isa
    (Adoption c.args.drain) c.args.name.now c.args.text.now c.in-Ok.taken.items c.adopted.result
    c.in-Ok.ensures (rw c.deref.ensures.value at c.adopted.ensures)
