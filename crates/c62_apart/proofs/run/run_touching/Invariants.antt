use Rattle.std.proofs.Common.{◌≡◌, ◌++◌, drop}
use Rattle.std.specs.Prelude.{fold}
use Rattle.c62_serial.specs.Serial.{after_insn, serial}
use Rattle.c62_apart.specs.Touch.{touches_in}
use Rattle.c62_apart.proofs.run.run_touching.Given as goal

abbrev pub invariant-loop-index : goal.invariant-loop-index
invariant-loop-index l = record {
  ran : fold after_insn (record { machine = l.state.machine; exit = l.exit }) (drop l.index l.insns)
      ≡ serial l.block.insns l.fn.state.machine;
  touched : l.touches.items ++ touches_in l.regs l.visit l.state.machine (drop l.index l.insns)
      ≡ l.fn.touches.items ++ touches_in l.regs l.visit l.fn.state.machine l.block.insns;
}
