use Rattle.std.specs.Prelude.{All, IfSome, map}
use Rattle.c62_command.specs.Promises.{trips_of}
use Rattle.c62_pipeline.specs.Checked.{IsChecked}
use Rattle.c62_pipeline.specs.Chosen.{IsChosen}
use Rattle.c62_pipeline.proofs.written.sifted.Given as goal

abbrev pub invariant-loop-number : goal.invariant-loop-number
invariant-loop-number l = record {
  chosen : All (IsChosen (map trips_of l.promises.trips.items) l.promises.apart.items l.program) l.loops.items;
  last : IfSome l.last (λ text. IsChecked l.isa (map trips_of l.promises.trips.items) l.promises.apart.items l.program text.items);
}
