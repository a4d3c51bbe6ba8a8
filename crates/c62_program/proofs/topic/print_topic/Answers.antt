use Rattle.std.proofs.Common.{◌≡◌, None, Some, rules}
use Rattle.std.proofs.KnownBytes.{Keeps-refl}
use Rattle.c62_explain.specs.Topic.{page_in}
use Rattle.c62_program.proofs.Writing.{is_written, known, unknown}
use Rattle.c62_program.proofs.topic.print_topic.Goals as goal

pub returns-in-Ok-Some : goal.returns-in-Ok-Some
returns-in-Ok-Some g c =
    let is : Some c.in-Ok-Some.text.items ≡ page_in c.args.name.now = search (rules, c.as_bytes.ensures.value) in
    known _ _ _ _ _ _ _ is
    (is_written c.write_whole-written.result _ 0 _ _ _ _ _ (rw c.deref.ensures.value at c.write_whole-written.ensures)
    c.status_behind.ensures)

pub returns-in-Ok-None : goal.returns-in-Ok-None
returns-in-Ok-None g c =
    let none : None ≡ page_in c.args.name.now = search (rules, c.as_bytes.ensures.value) in
    unknown c.write_pieces.result _ _ _ _ none c.write_pieces.ensures
    (Keeps-refl (g.W.Write.contents c.args.output.now))
