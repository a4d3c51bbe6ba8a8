use Rattle.std.proofs.Common.{◌∙◌}
use Rattle.c62_program.proofs.Labelled.{front_renamed}
use Rattle.c62_program.proofs.labels.renamed.Goals as goal

pub returns-in_ok-joined-in-Some : goal.returns-in_ok-joined-in-Some
returns-in_ok-joined-in-Some c =
    front_renamed c.args.text.now c.in-Some.parts.text.now c.in-Some.parts.listing.now c.deref.result.now
    c.in_ok-joined-in-Some.field-0.items c.in-Some.ensures
    (c.deref.ensures.value ∙ c.in_ok-front-in-Some.ensures) c.in_ok-joined-in-Some.ensures
