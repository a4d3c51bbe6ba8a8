-- What is issued in some cycles alone (docs/SCHEDULING.md, "Search").
use Rattle.std.specs.Prelude.{◌≡◌, ℕ, ◌+◌, ◌-◌, ◌*◌, ◌≤◌, List, Some, slice_get}
use Rattle.c62_insn.specs.declared.insn.Insn.{Insn}
use Rattle.c62_bound.specs.Bound.{width, WaitsFor}
use Rattle.c62_refute.specs.declared.window.Window.{Window as Cycles}
use Rattle.c62_refute.specs.declared.crowd.Stretch.{Stretch as Part}

-- how many instructions find room in these cycles
abbrev pub room_in : Part → ℕ
room_in part = width part.kind * (part.last - part.first + 1)

-- number i waits for the room, and no other cycles than these are left to it
pub record IsInside (block : List Insn) (windows : List Cycles) (part : Part) (i : ℕ) : Type 0 where
  pub waits : WaitsFor block part.kind part.side i
  pub window : Cycles
  pub is : slice_get windows i ≡ Some window
  pub begin : part.first ≤ window.first
  pub ends : window.last ≤ part.last
