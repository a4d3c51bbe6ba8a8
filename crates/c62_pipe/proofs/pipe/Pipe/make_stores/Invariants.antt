use Rattle.std.proofs.Common.{◌≡◌, take}
use Rattle.std.specs.Prelude.{fold}
use Rattle.c62_pipe.specs.Flight.{stored}
use Rattle.c62_pipe.proofs.pipe.Pipe.make_stores.Given as goal

abbrev pub invariant-loop-place : goal.invariant-loop-place
invariant-loop-place l = l.state ≡ record l.fn.state {
  machine = record l.fn.state.machine
      { memory = fold stored l.fn.state.machine.memory (take l.place-index l.place-items) };
}
