use Rattle.std.proofs.Common.{◌≡◌, false, rules}
use Rattle.std.specs.Prelude.{map}
use Rattle.c62_command.specs.Promises.{trips_of}
use Rattle.c62_check_loops.specs.Granted.{is_enough}
use Rattle.c62_loop_match.specs.Parts.{region_of as region_read}
use Rattle.c62_pipeline.proofs.Choosing.{found_of, left_of}
use Rattle.c62_pipeline.proofs.chosen.counted.Goals as goal

pub returns-then-not-is_enough : goal.returns-then-not-is_enough
returns-then-not-is_enough c =
    let none : is_enough (map trips_of c.args.promises.now.trips.items) c.args.label.now c.args.constant 1 ≡ false
    = search (rules, c.is_enough.ensures) in
    left_of (map trips_of c.args.promises.now.trips.items) c.args.promises.now.apart.items c.args.label.now
    c.args.constant (region_read c.args.region.now) c.without.result c.without.ensures.number c.without.ensures.made
    c.without.ensures.kept c.without.ensures.limit none

pub returns : goal.returns
returns c =
    found_of c.found.result (map trips_of c.args.promises.now.trips.items) c.args.promises.now.apart.items
    c.args.label.now c.args.constant c.promise_of-promise.result (region_read c.args.region.now)
    (rw c.deref.ensures.value at c.promise_of-promise.ensures) c.found.ensures
