use Rattle.std.proofs.Common.{◌≡◌, ◌+◌, ◌≤◌, length, take}
use Rattle.c62_serial.specs.declared.serial.Exit.TheVariants.{Next}
use Rattle.c62_serial.specs.Serial.{serial}
use Rattle.c62_serial.proofs.serial.run_block.Given as goal

abbrev pub invariant-loop-entry : goal.invariant-loop-entry
invariant-loop-entry l = record {
  ran : serial (take l.entry-index l.insns) l.fn.state.machine ≡ record { machine = l.state.machine; exit = Next };
  room : length l.insns ≤ l.entry-index + l.state.room;
}
