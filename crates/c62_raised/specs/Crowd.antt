-- Instructions that wait for one room behind another instruction (docs/SCHEDULING.md, "Raised heights").
use Rattle.std.specs.Prelude.{◌≡◌, ℕ, ◌+◌, ◌-◌, ◌<◌, ◌≤◌, ℤ, ◌≤ℤ◌, List, length, Option, Some, IsSome}
use Rattle.std.specs.Int.{div_ceil}
use Rattle.c62_insn.specs.declared.insn.Insn.{Insn}
use Rattle.c62_depend.specs.Height.{raised}
use Rattle.c62_sheet.specs.Counts.{HasCount}
use Rattle.c62_raised.specs.declared.room.Room.{Room}
use Rattle.c62_raised.specs.declared.crowd.Crowd.{Crowd}
use Rattle.c62_raised.specs.Room.{WaitsIn, width_of}

-- number j waits for the room, is bound to come behind, and its raised height is as great as the tail, or greater
pub record IsInCrowd (block : List Insn) (height : ℕ → ℕ) (lead : ℕ → Option ℤ) (room : Room) (tail j : ℕ) : Type 0 where
  pub waits : WaitsIn block room j
  pub behind : IsSome (lead j)
  pub tall : tail ≤ height j

-- the crowd for this room whose tail is the raised height of one that is in it: all that are, and the least that one of them comes behind
pub record IsCrowdOf (block : List Insn) (height : ℕ → ℕ) (lead : ℕ → Option ℤ) (room : Room) (last : ℕ) (crowd : Crowd) : Type 0 where
  pub is_room : crowd.room ≡ room
  pub is_tail : crowd.tail ≡ height last
  pub within : last < length block
  pub last_in : IsInCrowd block height lead room crowd.tail last
  pub counted : HasCount (IsInCrowd block height lead room crowd.tail) (length block) crowd.count
  pub least : (j : ℕ) (cycles : ℤ) → j < length block → IsInCrowd block height lead room crowd.tail j → lead j ≡ Some cycles → crowd.lead ≤ℤ cycles
  pub first : (j : ℕ) × (j < length block) × IsInCrowd block height lead room crowd.tail j × (lead j ≡ Some crowd.lead)

-- the cycles behind: those before the first of them can come, all but the last of those in which they find room, and the tail
abbrev pub cycles_of : Crowd → ℕ
cycles_of crowd = raised crowd.lead (div_ceil crowd.count (width_of crowd.room) - 1 + crowd.tail)
