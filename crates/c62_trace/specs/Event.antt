-- The events of a run, cycle by cycle (docs/TRACE.md, "Events"). They are told of what was issued and of what it did, so nothing here
-- goes from one cycle to the next.
use Rattle.std.specs.Prelude.{ℕ, ◌+◌, ◌==◌, Bool, IsTrue, List, [], ◌∷◌, ◌++◌, map, filter, Option, Some, None, if◌then◌else◌}
use Rattle.std.specs.List.{flat_map}
use Rattle.c62_op.specs.declared.register.Reg.{Reg}
use Rattle.c62_op.specs.declared.register.Cond.{Cond as Condition}
use Rattle.c62_op.specs.declared.register.Unit.{Unit as FunctionalUnit}
use Rattle.c62_insn.specs.declared.effect.Access.{Access as MemoryAccess}
use Rattle.c62_insn.specs.declared.insn.Insn.{Insn}
use Rattle.c62_insn.specs.Insn.{cond_of, operand_reads}
use Rattle.c62_serial.specs.State.{Machine, word_in}
use Rattle.c62_serial.specs.Memory.{is_good, is_size}
use Rattle.c62_serial.specs.Effect.{Act, runs}
use Rattle.c62_packet.specs.declared.placed.Placed.{Placed}
use Rattle.c62_meaning.specs.Packet.{Did, word_before}
use Rattle.c62_pipe.specs.declared.slot.Due.{Due}
use Rattle.c62_pipe.specs.Flight.{act_at, made_by}

pub data Event : Type 0 where
  -- an instruction of this line is issued on a unit and runs: the registers that it reads, with their words, and its access by place
  -- in memory
  Issued : (line : ℕ) → FunctionalUnit → Insn → List (Reg × ℕ) → Option MemoryAccess → Event
  -- one is issued whose condition doesn't hold: the register that this tests, with its word
  Skipped : (line : ℕ) → FunctionalUnit → Insn → List (Reg × ℕ) → Event
  -- an instruction of this line stores at a place so many bytes of a value
  Stored : (line place size value : ℕ) → Event
  -- a write lands in its register
  Landed : Due → Event

-- ---- of an instruction

-- the register of a condition
abbrev pub tested : Option Condition → List Reg
tested None = []
tested (Some cond) = cond.reg ∷ []

-- registers with their words
abbrev pub with_words : (Reg → ℕ) → List Reg → List (Reg × ℕ)
with_words word regs = map (λ reg. (reg, word reg)) regs

-- its issue, where registers have these words
abbrev pub issue_of : (Reg → ℕ) → Placed → (runs : Bool) → Option MemoryAccess → Event
issue_of word p runs access =
    if runs then Issued p.line p.unit p.insn (with_words word (tested (cond_of p.insn) ++ operand_reads p.insn)) access
    else Skipped p.line p.unit p.insn (with_words word (tested (cond_of p.insn)))

-- its store, where it makes one that doesn't fault
abbrev pub stored_at : (line place size : ℕ) → Option ℕ → List Event
stored_at line place size None = []
stored_at line place size (Some value) = if is_good place size then Stored line place size value ∷ [] else []

abbrev pub stored_by : ℕ → Option MemoryAccess → List Event
stored_by line None = []
stored_by line (Some access) = stored_at line access.address access.size access.value

-- what it does where registers have these words
abbrev pub events_of : (Reg → ℕ) → Act → Placed → List Event
events_of word act p = issue_of word p (runs word p.insn) act.access ∷ stored_by p.line act.access

-- the same on a machine
abbrev pub events_at : Machine → Placed → List Event
events_at machine p = events_of (word_in machine) (act_at p machine) p

-- the access has 1, 2 or 4 bytes
abbrev pub IsSized : Option MemoryAccess → Type 0
IsSized None = Unit {0}
IsSized (Some access) = IsTrue (is_size access.size)

-- ---- of a cycle

-- of the writes of an instruction those that land in a cycle
abbrev pub landings_of : ℕ → Did → Placed → List Due
landings_of cycle did p = map (made_by p.line) (filter (λ write. p.cycle + write.0.1 == cycle) (did p).writes)

-- the writes that land in a cycle, in the order of issue
abbrev pub landings : Did → ℕ → List Placed → List Due
landings did cycle placed = flat_map (landings_of cycle did) placed

-- what an instruction of these does in a cycle, where it is issued in it: it finds the registers as they are before the cycle
abbrev pub issued_in : List Placed → Machine → Did → ℕ → Placed → List Event
issued_in placed opening did cycle p =
    if p.cycle == cycle then events_of (word_before placed opening did cycle) (did p) p else []

-- The events of a cycle: each instruction that is issued in it, with its store, and then what lands at its end.
abbrev pub events_in : List Placed → Machine → Did → ℕ → List Event
events_in placed opening did cycle =
    flat_map (issued_in placed opening did cycle) placed ++ map Landed (landings did cycle placed)

-- ---- of a run

-- an event with its cycle, from 0 at the beginning of the run
abbrev pub Entry : Type 0
Entry = ℕ × Event

-- events of one cycle
abbrev pub entries : ℕ → List Event → List Entry
entries cycle events = map (λ event. (cycle, event)) events
