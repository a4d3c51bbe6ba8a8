use Rattle.std.proofs.lemmas.List.Elements.{All-push}
use Rattle.std.specs.Prelude.{map}
use Rattle.c62_command.specs.Promises.{trips_of}
use Rattle.c62_pipeline.specs.Chosen.{IsChosen}
use Rattle.c62_pipeline.proofs.written.push_choice.Goals as goal

pub returns-in_ok-push-in-Some : goal.returns-in_ok-push-in-Some
returns-in_ok-push-in-Some c = λ before.
    rw (c.in_ok-push-in-Some.ensures.items)
    (All-push (IsChosen (map trips_of c.args.promises.now.trips.items) c.args.promises.now.apart.items
    c.args.blocks.now)
    c.args.choices.now.items c.in-Some.choice before (rw c.in-Some.is at c.in_ok-choice.ensures))
