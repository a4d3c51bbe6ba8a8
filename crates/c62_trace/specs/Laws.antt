-- What the events of a cycle are, as laws above their definition: by an instruction that was issued, and its write or its store.
use Rattle.std.specs.Prelude.{◌≡◌, ◌↔◌, ℕ, ◌+◌, ◌-◌, ◌==◌, Bool, true, false, List, map, filter, Contains, Some, IsTrue}
use Rattle.std.specs.List.{flat_map}
use Rattle.c62_op.specs.declared.register.Reg.{Reg}
use Rattle.c62_serial.specs.State.{Machine}
use Rattle.c62_serial.specs.Memory.{is_good}
use Rattle.c62_serial.specs.Effect.{runs}
use Rattle.c62_packet.specs.declared.placed.Placed.{Placed}
use Rattle.c62_meaning.specs.Packet.{Did, word_before}
use Rattle.c62_pipe.specs.declared.slot.Due.{Due}
use Rattle.c62_pipe.specs.Flight.{made_by}
use Rattle.c62_trace.specs.Event.{Event, Issued, Skipped, Landed, Stored, issue_of, stored_by, landings as all_landings, events_in}

-- an instruction of these was issued, and a write of it lands in this cycle, when its delay is over
pub record LandsIn (placed : List Placed) (did : Did) (cycle : ℕ) (write : Due) : Type 0 where
  pub by : Placed
  pub inside : Contains placed by
  pub made : (Reg × ℕ) × ℕ
  pub writes : Contains (did by).writes made
  pub when : by.cycle + made.0.1 ≡ cycle
  pub is : made_by by.line made ≡ write
  pub issued : by.cycle ≡ cycle - write.delay

-- one of these was issued in this cycle, and made this store, which doesn't fault
pub record StoresIn (placed : List Placed) (did : Did) (cycle line place size value : ℕ) : Type 0 where
  pub by : Placed
  pub inside : Contains placed by
  pub issued : by.cycle ≡ cycle
  pub of_line : by.line ≡ line
  pub stores : (did by).access ≡ Some (record { address = place; size = size; value = Some value })
  pub good : IsTrue (is_good place size)

-- ---- the events of a kind

abbrev pub is_issue : Event → Bool
is_issue (Issued line unit insn reads access) = true
is_issue (Skipped line unit insn reads) = true
is_issue _ = false

abbrev pub is_store : Event → Bool
is_store (Stored line place size value) = true
is_store _ = false

abbrev pub is_landing : Event → Bool
is_landing (Landed write) = true
is_landing _ = false

-- ---- what there is to tell of a cycle

-- the instructions of these that are issued in it
abbrev pub issued_at : ℕ → List Placed → List Placed
issued_at cycle placed = filter (λ (p : Placed). p.cycle == cycle) placed

-- the issue of one of them, with what the registers held before the cycle
abbrev pub issue_in : List Placed → Machine → Did → ℕ → Placed → Event
issue_in placed opening did cycle p =
    issue_of (word_before placed opening did cycle) p (runs (word_before placed opening did cycle) p.insn) (did p).access

-- its store, where it makes one that doesn't fault
abbrev pub stores_of : Did → Placed → List Event
stores_of did p = stored_by p.line (did p).access

-- Each write that lands in a cycle is among its events, and so is each store, and no other. So is each issue, with what the
-- registers held before the cycle. And each is told once: the issues are those of the instructions that are issued in the cycle, one each
-- and in their order, the stores are those of these instructions, and the landings are the writes that land.
pub record AreTold (placed : List Placed) (opening : Machine) (did : Did) (cycle : ℕ) : Type 0 where
  pub landings : (write : Due) → Contains (events_in placed opening did cycle) (Landed write) ↔ LandsIn placed did cycle write
  pub stores : (line place size value : ℕ)
      → Contains (events_in placed opening did cycle) (Stored line place size value) ↔ StoresIn placed did cycle line place size value
  pub issues : (p : Placed) → Contains placed p → p.cycle ≡ cycle
      → Contains (events_in placed opening did cycle) (issue_in placed opening did cycle p)
  pub issued_once : filter is_issue (events_in placed opening did cycle) ≡ map (issue_in placed opening did cycle) (issued_at cycle placed)
  pub stored_once : filter is_store (events_in placed opening did cycle) ≡ flat_map (stores_of did) (issued_at cycle placed)
  pub landed_once : filter is_landing (events_in placed opening did cycle) ≡ map Landed (all_landings did cycle placed)
