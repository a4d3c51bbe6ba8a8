use Rattle.std.proofs.Common.{◌≡◌, take, map, Some}
use Rattle.c62_command.specs.Promises.{all_trips, trips_of}
use Rattle.c62_command.proofs.promise.read_trips.Given as goal

abbrev pub invariant-loop-text : goal.invariant-loop-text
invariant-loop-text l =
    (all_trips (take l.text-index (map (λ text. text.now) l.texts)) ≡ Some (map trips_of l.all.items))
    × (l.number ≡ l.text-index)
