-- Accesses that fault where packets are run (docs/REPORT.md, "Accesses that fault"). Each instruction computes its address from what it
-- finds in the cycle of its issue.
use Rattle.std.specs.Prelude.{List, Option}
use Rattle.std.specs.List.{flat_map}
use Rattle.std.specs.Option.{option_to_list}
use Rattle.c62_read.specs.declared.block.SerialInsn.{SerialInsn}
use Rattle.c62_serial.specs.State.{Machine}
use Rattle.c62_packet.specs.declared.placed.Placed.{Placed}
use Rattle.c62_meaning.specs.Packet.{Did}
use Rattle.c62_faulted.specs.declared.fault.Fault.{Fault}
use Rattle.c62_faulted.specs.Faulted.{fault_by, fault_in}

-- an instruction of packets as one of a text: with its line, and without its cycle and unit
abbrev pub entry_of : Placed → SerialInsn
entry_of p = record { insn = p.insn; line = p.line }

-- the fault of the access that an instruction made, if it has one
abbrev pub fault_done : Did → Placed → Option Fault
fault_done did p = fault_by (entry_of p) (did p).access

-- those of instructions in the order of their issue
abbrev pub faults_done : Did → List Placed → List Fault
faults_done did placed = flat_map (λ p. option_to_list (fault_done did p)) placed

-- ---- on a machine

abbrev pub fault_at : Machine → Placed → Option Fault
fault_at machine p = fault_in machine (entry_of p)

-- those of a packet, all of whose instructions find the same machine
abbrev pub faults_at : Machine → List Placed → List Fault
faults_at machine insns = flat_map (λ p. option_to_list (fault_at machine p)) insns
