use Rattle.std.proofs.Common.{◌-◌, length}
use Rattle.c62_serial.specs.Chain.{position_at}
use Rattle.c62_traced.proofs.Chaining.{IsToldTo}
use Rattle.c62_traced.proofs.chain.trace_chain.Given as goal

abbrev pub invariant-loop-number : goal.invariant-loop-number
invariant-loop-number g l =
    IsToldTo g.T.Watch.tells l.packets l.fn.state.machine l.state.machine (position_at (length l.packets) l.number)
    l.blocks l.cycles l.limit l.fn.watch l.watch

abbrev pub decreases-loop-number : goal.decreases-loop-number
decreases-loop-number g l = l.limit - l.blocks
