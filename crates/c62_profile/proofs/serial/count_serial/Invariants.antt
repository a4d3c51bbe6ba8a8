use Rattle.std.proofs.Common.{◌-◌, length}
use Rattle.c62_serial.specs.Chain.{position_at, serial_blocks}
use Rattle.c62_profile.specs.Visits.{insns_each}
use Rattle.c62_profile.proofs.Turns.{Turn}
use Rattle.c62_profile.proofs.serial.count_serial.Given as goal

abbrev pub invariant-loop-number : goal.invariant-loop-number
invariant-loop-number l =
    Turn (length l.program) (serial_blocks l.program) (insns_each l.program) l.fn.state.machine l.state.machine
    (position_at (length l.program) l.number) l.tally.blocks l.tally.taken l.tally.visits.items l.limit

abbrev pub decreases-loop-number : goal.decreases-loop-number
decreases-loop-number l = l.limit - l.tally.blocks
