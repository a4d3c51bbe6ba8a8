-- What an instruction does is what its action tells.
use Rattle.std.proofs.Common.{◌≡◌, true, List, ℕ, refl}
use Rattle.c62_insn.specs.declared.action.Action.{Action}
use Rattle.c62_insn.specs.declared.insn.Insn.{Insn}
use Rattle.c62_insn.specs.Insn.{op_of, operands_of}
use Rattle.c62_insn.specs.Action.{word_at, IsAction}
use Rattle.c62_serial.specs.State.{Machine, word_in, byte_in}
use Rattle.c62_serial.specs.Effect.{act_of, runs}
use Rattle.c62_serial.specs.Serial.{act_by}

pub act_of-action : (insn : Insn) (machine : Machine) (registers : List ℕ) (action : Action)
    → registers ≡ machine.registers
    → runs (word_in machine) insn ≡ true → IsAction (op_of insn) (operands_of insn) (word_at registers) action
    → act_of insn machine.base (word_in machine) (byte_in machine)
    ≡ act_by (op_of insn) action machine.base (byte_in machine)
act_of-action insn machine registers action e running told =
    let f : IsAction (op_of insn) (operands_of insn) (word_in machine) action = rw e at told in
    rw (running, f.writes, f.values, f.access, f.target) refl
