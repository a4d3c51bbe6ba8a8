-- What is in flight between two cycles: writes by the cycle of their landing, and the stores of the packet.
use Rattle.std.specs.Prelude.{◌≡◌, ℕ, ◌+◌, ◌%◌, ◌≤◌, List, [], ◌∷◌, ◌++◌, length, All, fold, slice_set, slice_index_or, Option, Some, None, IsTrue}
use Rattle.c62_op.specs.declared.register.Reg.{Reg}
use Rattle.c62_insn.specs.declared.action.Action.TheVariants.{Transfer as Transfers}
use Rattle.c62_insn.specs.declared.action.Transfer.{Transfer}
use Rattle.c62_insn.specs.declared.effect.Access.{Access as MemoryAccess}
use Rattle.c62_insn.specs.Insn.{op_of}
use Rattle.c62_packet.specs.declared.placed.Placed.{Placed}
use Rattle.c62_serial.specs.State.{Machine, index_of, word_in, byte_in}
use Rattle.c62_serial.specs.Memory.{is_size, written}
use Rattle.c62_serial.specs.Faults.{with_fault_if}
use Rattle.c62_serial.specs.Effect.{Act, act_of, is_fault}
use Rattle.c62_serial.specs.Serial.{act_by}
use Rattle.c62_pipe.specs.declared.slot.Due.{Due}

-- the writes that land in one cycle, in the order of issue
abbrev pub Slot : Type 0
Slot = List Due

-- a store that is to be made: address, size and value
abbrev pub Store : Type 0
Store = ℕ × ℕ × ℕ

-- a slot for each of five cycles in turn, and the stores of the packet
pub record Flight : Type 0 where
  pub slots : List Slot
  pub stores : List Store

-- what always holds of it
pub record IsFlight (flight : Flight) : Type 0 where
  pub slots : length flight.slots ≡ 5
  pub sizes : All (λ store. IsTrue (is_size store.1)) flight.stores

-- what lands in a cycle
abbrev pub due : List Slot → ℕ → Slot
due slots cycle = slice_index_or slots (cycle % 5) []

-- nothing is in flight
pub record IsIdle (flight : Flight) : Type 0 where
  pub size : length flight.slots ≡ 5
  pub slots : (cycle : ℕ) → due flight.slots cycle ≡ []
  pub stores : flight.stores ≡ []

-- one write more that lands in this cycle
abbrev pub with_due : ℕ → Due → List Slot → List Slot
with_due cycle write slots = slice_set slots (cycle % 5) (due slots cycle ++ write ∷ [])

-- a write that an instruction of this line made
abbrev pub made_by : ℕ → (Reg × ℕ) × ℕ → Due
made_by line write = record { reg = write.0.0; word = write.1; line = line; delay = write.0.1 }

-- a write of an instruction of this line that is issued in this cycle
abbrev pub with_write : ℕ → ℕ → List Slot → (Reg × ℕ) × ℕ → List Slot
with_write cycle line slots write = with_due (cycle + write.0.1) (made_by line write) slots

abbrev pub with_writes : ℕ → ℕ → List ((Reg × ℕ) × ℕ) → List Slot → List Slot
with_writes cycle line writes slots = fold (with_write cycle line) slots writes

-- each slot holds at most as many writes as eight units start in five cycles
abbrev pub FitsSlots : List Slot → Type 0
FitsSlots slots = All (λ slot. length slot ≤ 40) slots

-- the store of an access, where it stores
abbrev pub stores_at : ℕ → ℕ → Option ℕ → List Store
stores_at address size None = []
stores_at address size (Some value) = (address, size, value) ∷ []

abbrev pub stores_of : Option MemoryAccess → List Store
stores_of None = []
stores_of (Some access) = stores_at access.address access.size access.value

-- what an instruction does on this machine
abbrev pub act_at : Placed → Machine → Act
act_at p machine = act_of p.insn machine.base (word_in machine) (byte_in machine)

abbrev pub with_stores : List Store → Flight → Flight
with_stores stores flight = record { slots = flight.slots; stores = stores }

-- what is in flight after an instruction of this line did this in a cycle
abbrev pub issued : ℕ → ℕ → Act → Flight → Flight
issued cycle line act flight = record { slots = with_writes cycle line act.writes flight.slots; stores = flight.stores ++ stores_of act.access }

-- what a load or a store does on this machine
abbrev pub transfer_at : Placed → Transfer → Machine → Act
transfer_at p transfer machine = act_by (op_of p.insn) (Transfers transfer) machine.base (byte_in machine)

-- there is room for the writes of what an instruction did in a cycle
abbrev pub FitsWrites : ℕ → Placed → Act → Flight → Type 0
FitsWrites cycle p act flight = FitsSlots (with_writes cycle p.line act.writes flight.slots)

-- the machine after the access of an instruction is noted, which may fault
abbrev pub with_fault_of : Placed → Option MemoryAccess → Machine → Machine
with_fault_of p access machine = with_fault_if p.line (is_fault access) machine

-- the machine after an instruction is issued: at once it only notes a fault
abbrev pub after_issue : Placed → Machine → Machine
after_issue p machine = with_fault_of p (act_at p machine).access machine

-- what is in flight after an instruction's load or store in a cycle
abbrev pub with_transfer : ℕ → Placed → Transfer → Machine → Flight → Flight
with_transfer cycle p transfer machine flight = issued cycle p.line (transfer_at p transfer machine) flight

-- registers after a landing
abbrev pub landed : List ℕ → Due → List ℕ
landed registers write = slice_set registers (index_of write.reg) write.word

-- memory after a store
abbrev pub stored : List ℕ → Store → List ℕ
stored memory store = written store.0 store.1 store.2 memory

-- the machine after these stores
abbrev pub after_stores : List Store → Machine → Machine
after_stores stores machine = record machine { memory = fold stored machine.memory stores }

-- the machine after these landings
abbrev pub after_landings : Slot → Machine → Machine
after_landings writes machine = record machine { registers = fold landed machine.registers writes }

-- the machine at the end of a cycle: the stores are made, and what is due lands
abbrev pub at_end : ℕ → Flight → Machine → Machine
at_end cycle flight machine = record {
  base = machine.base;
  registers = fold landed machine.registers (due flight.slots cycle);
  memory = fold stored machine.memory flight.stores;
  faults = machine.faults;
}

-- what is in flight then
abbrev pub after_end : ℕ → Flight → Flight
after_end cycle flight = record { slots = slice_set flight.slots (cycle % 5) []; stores = [] }
