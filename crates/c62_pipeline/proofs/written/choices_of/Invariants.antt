use Rattle.std.proofs.Common.{◌≡◌}
use Rattle.std.specs.Prelude.{All, map}
use Rattle.c62_command.specs.Promises.{trips_of}
use Rattle.c62_pipeline.specs.Chosen.{IsChosen}
use Rattle.c62_pipeline.proofs.written.choices_of.Given as goal

abbrev pub invariant-loop-own : goal.invariant-loop-own
invariant-loop-own l =
    All (IsChosen (map trips_of l.promises.trips.items) l.promises.apart.items l.program) l.choices.items
    × (l.blocks ≡ l.program)
