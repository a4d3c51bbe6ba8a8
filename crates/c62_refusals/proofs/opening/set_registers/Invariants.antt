use Rattle.std.proofs.Common.{◌≡◌, ◌<◌}
use Rattle.c62_op.specs.declared.register.Reg.{Reg}
use Rattle.c62_serial.specs.State.{word_in}
use Rattle.c62_refusals.specs.Opening.{word_on}
use Rattle.c62_refusals.proofs.opening.set_registers.Given as goal

-- the registers so far are set, and nothing else
abbrev pub invariant-loop-number : goal.invariant-loop-number
invariant-loop-number l = ((reg : Reg) → reg.number < l.number
    → word_in l.state.machine reg ≡ word_on reg.side reg.number)
    × (l.state.machine.memory ≡ l.fn.state.machine.memory)
    × (l.state.machine.faults ≡ l.fn.state.machine.faults)
