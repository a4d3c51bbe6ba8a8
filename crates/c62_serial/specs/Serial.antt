-- The serial meaning of a block: the effects of its instructions one after the other, each on what the one before left.
use Rattle.std.specs.Prelude.{ℕ, List, ◌++◌, Option, Some, None, fold, slice_set}
use Rattle.std.specs.List.{zip}
use Rattle.std.specs.Option.{option_to_list}
use Rattle.c62_op.specs.declared.register.Reg.{Reg}
use Rattle.c62_op.specs.declared.operands.Op.{Op}
use Rattle.c62_insn.specs.declared.action.Action.{Action}
use Rattle.c62_insn.specs.declared.action.Action.TheVariants.{Transfer as Transfers}
use Rattle.c62_insn.specs.declared.action.Transfer.{Transfer}
use Rattle.c62_insn.specs.declared.effect.Access.{Access as MemoryAccess}
use Rattle.c62_insn.specs.declared.effect.Target.{Target}
use Rattle.c62_insn.specs.declared.effect.Target.TheVariants.{Block as ToBlock, Register as ToRegister}
use Rattle.c62_insn.specs.Insn.{op_of}
use Rattle.c62_insn.specs.Action.{writes_in, values_in, access_in, target_in}
use Rattle.c62_read.specs.declared.block.SerialInsn.{SerialInsn}
use Rattle.c62_serial.specs.declared.serial.Exit.{Exit}
use Rattle.c62_serial.specs.declared.serial.Exit.TheVariants.{Next, Block, Register}
use Rattle.c62_serial.specs.State.{Machine, index_of, word_in, byte_in}
use Rattle.c62_serial.specs.Memory.{written, placed_from}
use Rattle.c62_serial.specs.Faults.{with_fault_if}
use Rattle.c62_serial.specs.Effect.{Act, act_of, loaded, is_fault}

-- what a run leaves: the machine, and where it goes on
pub record Ran : Type 0 where
  pub machine : Machine
  pub exit : Exit

-- registers after a write
abbrev pub after_write : List ℕ → (Reg × ℕ) × ℕ → List ℕ
after_write registers write = slice_set registers (index_of write.0.0) write.1

-- memory after an access
abbrev pub after_store : List ℕ → Option ℕ → ℕ → ℕ → List ℕ
after_store memory None address size = memory
after_store memory (Some value) address size = written address size value memory

abbrev pub after_access : List ℕ → Option MemoryAccess → List ℕ
after_access memory None = memory
after_access memory (Some access) = after_store memory access.value access.address access.size

-- the machine after an access of this line, which may fault
abbrev pub with_access : ℕ → Option MemoryAccess → Machine → Machine
with_access line access machine =
    with_fault_if line (is_fault access) (record machine { memory = after_access machine.memory access })

-- the machine after these writes
abbrev pub with_writes : List ((Reg × ℕ) × ℕ) → Machine → Machine
with_writes writes machine = record machine { registers = fold after_write machine.registers writes }

-- the machine after what an instruction of this line did
abbrev pub after_act : ℕ → Act → Machine → Machine
after_act line act machine = with_writes act.writes (with_access line act.access machine)

-- what an instruction did that took this action, where memory begins at a base and had these bytes before it
abbrev pub act_by : Op → Action → ℕ → (ℕ → ℕ) → Act
act_by op action base byte = let access = placed_from base (access_in action) in record {
  writes = zip (writes_in op action) (values_in action ++ option_to_list (loaded byte op access));
  access = access;
  target = target_in action;
}

-- the machine after an instruction of this line took this action
abbrev pub after_action : ℕ → Op → Action → Machine → Machine
after_action line op action machine = after_act line (act_by op action machine.base (byte_in machine)) machine

-- the same of its load or store
abbrev pub after_transfer : SerialInsn → Transfer → Machine → Machine
after_transfer entry transfer machine = after_action entry.line (op_of entry.insn) (Transfers transfer) machine

abbrev pub exit_to : Target → Exit
exit_to (ToBlock number) = Block number
exit_to (ToRegister value) = Register value

-- the exit is that of a branch that ran
abbrev pub exit_after : Exit → Option Target → Exit
exit_after exit None = exit
exit_after exit (Some target) = exit_to target

-- an instruction acts on what a run left
abbrev pub act_in : Machine → SerialInsn → Act
act_in machine entry = act_of entry.insn machine.base (word_in machine) (byte_in machine)

-- the machine after an instruction
abbrev pub after_entry : SerialInsn → Machine → Machine
after_entry entry machine = after_act entry.line (act_in machine entry) machine

abbrev pub after_insn : Ran → SerialInsn → Ran
after_insn ran entry = let act = act_in ran.machine entry in
    record { machine = after_act entry.line act ran.machine; exit = exit_after ran.exit act.target }

-- the serial meaning
abbrev pub serial : List SerialInsn → Machine → Ran
serial insns machine = fold after_insn (record { machine = machine; exit = Next }) insns
