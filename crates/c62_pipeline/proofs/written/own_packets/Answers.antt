use Rattle.std.proofs.Common.{◌≡◌, ◌∙◌, ap, arith, length, refl}
use Rattle.std.proofs.lemmas.List.{with_items_is}
use Rattle.std.specs.Prelude.{map}
use Rattle.std.specs.Vec.{with_items}
use Rattle.c62_command.specs.Promises.{trips_of}
use Rattle.c62_pipeline.specs.Chosen.{given_up}
use Rattle.c62_pipeline.proofs.GivingUp.{all_given_up}
use Rattle.c62_pipeline.proofs.written.own_packets.Goals as goal

pub returns : goal.returns
returns c =
    let choices = c.args.choices in
    let left = c.give_all_up.new.choices in
    let are : left ≡ map given_up choices.items = c.give_all_up.ensures ∙ ap (map given_up) c.deref_mut.ensures.value in
    let sized : length left ≡ choices.len
    = omega (arith, c.give_all_up.auto.choices, c.deref_mut.ensures.len) in
    all_given_up c.args.isa (map trips_of c.args.promises.now.trips.items) c.args.promises.now.apart.items
    c.args.program.now c.args.listing.items choices.items
    (record { text = c.args.listing; loops = with_items choices left }) c.requires refl
    (with_items_is choices left sized ∙ are)
