use Rattle.std.proofs.Common.{◌-◌}
use Rattle.c62_serial.proofs.ChainLemmas.{Turn}
use Rattle.c62_serial.proofs.chain.run_program.Given as goal

abbrev pub invariant-loop-number : goal.invariant-loop-number
invariant-loop-number l = Turn l.program l.fn.state.machine l.state.machine l.number l.blocks l.limit

abbrev pub decreases-loop-number : goal.decreases-loop-number
decreases-loop-number l = l.limit - l.blocks
