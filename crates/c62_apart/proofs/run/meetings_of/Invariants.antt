use Rattle.std.proofs.Common.{◌-◌, length}
use Rattle.c62_serial.specs.Chain.{position_at}
use Rattle.c62_apart.proofs.Running.{IsSeen}
use Rattle.c62_apart.proofs.run.meetings_of.Given as goal

abbrev pub invariant-loop-number : goal.invariant-loop-number
invariant-loop-number l = IsSeen l.program l.regs l.fn.state.machine l.state.machine
    (position_at (length l.program) l.number)
    l.blocks l.limit l.visit l.watch.marks.items l.watch.met.items

abbrev pub decreases-loop-number : goal.decreases-loop-number
decreases-loop-number l = l.limit - l.blocks
