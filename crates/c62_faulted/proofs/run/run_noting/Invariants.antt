use Rattle.std.proofs.Common.{◌≡◌, drop}
use Rattle.std.specs.Prelude.{fold}
use Rattle.c62_serial.specs.Serial.{after_insn, serial}
use Rattle.c62_faulted.specs.Faulted.{faults_in, with_faults}
use Rattle.c62_faulted.proofs.run.run_noting.Given as goal

abbrev pub invariant-loop-index : goal.invariant-loop-index
invariant-loop-index l = record {
  ran : fold after_insn (record { machine = l.state.machine; exit = l.exit }) (drop l.index l.insns)
      ≡ serial l.block.insns l.fn.state.machine;
  noted : with_faults l.faults.items (faults_in l.state.machine (drop l.index l.insns))
      ≡ with_faults l.fn.faults.items (faults_in l.fn.state.machine l.block.insns);
}
