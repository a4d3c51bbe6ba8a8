use Rattle.std.proofs.Common.{◌≡◌, take}
use Rattle.std.specs.Prelude.{fold}
use Rattle.c62_pipe.specs.Flight.{landed}
use Rattle.c62_pipe.proofs.ring.Ring.land.Given as goal

abbrev pub invariant-loop-due : goal.invariant-loop-due
invariant-loop-due l = l.state ≡ record l.fn.state {
  machine = record l.fn.state.machine
      { registers = fold landed l.fn.state.machine.registers (take l.due-index l.due-items) };
}
