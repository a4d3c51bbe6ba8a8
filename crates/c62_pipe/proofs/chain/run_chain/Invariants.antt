use Rattle.std.proofs.Common.{◌-◌}
use Rattle.c62_pipe.specs.Flight.{IsIdle}
use Rattle.c62_pipe.proofs.Chains.{Turn}
use Rattle.c62_pipe.proofs.chain.run_chain.Given as goal

abbrev pub invariant-loop-number : goal.invariant-loop-number
invariant-loop-number l = record {
  turn : Turn l.packets l.fn.state.machine l.state.machine l.number l.blocks l.cycles l.limit;
  idle : IsIdle l.pipe;
}

abbrev pub decreases-loop-number : goal.decreases-loop-number
decreases-loop-number l = l.limit - l.blocks
