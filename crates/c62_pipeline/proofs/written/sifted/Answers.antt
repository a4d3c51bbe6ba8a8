use Rattle.std.proofs.Common.{◌<◌, length, rules}
use Rattle.std.proofs.lemmas.List.Elements.{All-set}
use Rattle.std.specs.Prelude.{map}
use Rattle.c62_command.specs.Promises.{trips_of}
use Rattle.c62_pipeline.specs.Chosen.{IsChosen}
use Rattle.c62_pipeline.proofs.GivingUp.{given_up_chosen}
use Rattle.c62_pipeline.proofs.written.sifted.Goals.{in-Some, in-None}
use Rattle.c62_pipeline.proofs.written.sifted.Goals as goal

pub loop-number-preserved : goal.loop-number-preserved
loop-number-preserved c =
    let inside : c.loop-number.number < length c.loop-number.loops.items = search rules in
    elim c.match-branch-2.branch [
      | in-Some w ↦ record {
        chosen = rw w.loops-is c.loop-number.invariant.chosen;
        last = rw w.last-is (rw w.in-Some.is at c.in_ok-text.ensures);
      }
      | in-None w ↦ record {
        chosen = rw w.loops-is
            (All-set (IsChosen (map trips_of c.args.promises.now.trips.items) c.args.promises.now.apart.items
            c.args.program.now) c.loop-number.loops.items c.loop-number.number w.give_up.new.self
            (rw w.give_up.ensures (given_up_chosen (map trips_of c.args.promises.now.trips.items)
            c.args.promises.now.apart.items c.args.program.now w.index_mut.result.now
            (rw w.index_mut.ensures.value
            (c.loop-number.invariant.chosen c.loop-number.number w.index_mut.result.now inside)))) c.loop-number.invariant.chosen);
        last = rw w.last-is c.loop-number.invariant.last;
      }
    ]
