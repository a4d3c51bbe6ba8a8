-- Accesses that fault in a serial run (docs/REPORT.md, "Accesses that fault"; docs/MACHINE.md, "Memory").
use Rattle.std.specs.Prelude.{◌≡◌, ℕ, ◌+◌, ◌%◌, nat_le, Bool, ◌==◌, not, List, [], ◌∷◌, ◌++◌, fold, length, map, Option, Some, None}
use Rattle.std.specs.Prelude.{option_map, option_and_then, if◌then◌else◌}
use Rattle.std.specs.List.{list_any}
use Rattle.std.specs.Option.{option_to_list}
use Rattle.c62_insn.specs.declared.effect.Access.{Access}
use Rattle.c62_insn.specs.Insn.{op_of}
use Rattle.c62_read.specs.declared.block.SerialInsn.{SerialInsn}
use Rattle.c62_read.specs.Block.{Serial}
use Rattle.c62_serial.specs.declared.state.TheConstants.{MEMORY_BYTES}
use Rattle.c62_serial.specs.State.{Machine}
use Rattle.c62_serial.specs.Serial.{act_in, after_entry, serial}
use Rattle.c62_serial.specs.Chain.{Standing, IsProgramChain, block_of}
use Rattle.c62_faulted.specs.declared.fault.Cause.{Cause}
use Rattle.c62_faulted.specs.declared.fault.Cause.TheVariants.{Misaligned, PastEnd}
use Rattle.c62_faulted.specs.declared.fault.Fault.{Fault}

-- why an access of so many bytes faults at a place, where it does
abbrev pub cause_of : ℕ → ℕ → Option Cause
cause_of place size =
    if not (place % size == 0) then Some Misaligned
    else (if nat_le (place + size) MEMORY_BYTES then None else Some PastEnd)

-- the access of an instruction, by its place, as a fault of this cause
abbrev pub fault_of : SerialInsn → Access → Cause → Fault
fault_of entry access cause = record {
  line = entry.line;
  op = op_of entry.insn;
  place = access.address;
  size = access.size;
  cause = cause;
}

-- the fault of what an instruction accesses, if it has one
abbrev pub fault_by : SerialInsn → Option Access → Option Fault
fault_by entry access = option_and_then (λ it. option_map (fault_of entry it) (cause_of it.address it.size)) access

-- so it is where the instruction acts on this machine
abbrev pub fault_in : Machine → SerialInsn → Option Fault
fault_in machine entry = fault_by entry (act_in machine entry).access

-- those of instructions that are run one after the other
abbrev pub faults_in : Machine → List SerialInsn → List Fault
faults_in machine [] = []
faults_in machine (entry ∷ insns) = option_to_list (fault_in machine entry) ++ faults_in (after_entry entry machine) insns

-- and those of the blocks of these numbers
abbrev pub faults_on : List Serial → Machine → List ℕ → List Fault
faults_on program machine [] = []
faults_on program machine (number ∷ numbers) =
    faults_in machine (block_of program number).insns ++ faults_on program (serial (block_of program number).insns machine).machine numbers

-- a fault of this line is among these
abbrev pub has_line : ℕ → List Fault → Bool
has_line line faults = list_any (λ fault. line == fault.line) faults

-- of each line the first
abbrev pub with_fault : List Fault → Fault → List Fault
with_fault told fault = if has_line fault.line told then told else told ++ fault ∷ []

abbrev pub with_faults : List Fault → List Fault → List Fault
with_faults told faults = fold with_fault told faults

-- The first fault of each line of a program's run under a limit, in the order in which they come.
pub record FindsFaults (program : List Serial) (opening : Machine) (limit : ℕ) (faults : List Fault) : Type 0 where
  pub standing : Standing
  pub whole : IsProgramChain program opening limit standing
  pub told : faults ≡ with_faults [] (faults_on program opening standing.numbers)

-- ---- blocks of one instruction

abbrev pub alone : SerialInsn → Serial
alone entry = record { label = None; insns = entry ∷ [] }

-- each instruction of a block as a block of its own
abbrev pub parted : Serial → List Serial
parted block = map alone block.insns
