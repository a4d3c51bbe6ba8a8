-- The cycles that are left to the instructions of a block, and the schedules that these hold (docs/SCHEDULING.md, "Search").
use Rattle.std.specs.Prelude.{◌≡◌, ℕ, ◌≤◌, List, length, Vec, Option, Some, MatchOption, slice_get}
use Rattle.std.specs.declared.alloc.Global.{Global}
use Rattle.c62_insn.specs.declared.insn.Insn.{Insn}
use Rattle.c62_sheet.specs.declared.entry.Spot.{Spot}
use Rattle.c62_sheet.specs.Lawful.{Spots, IsAt}
use Rattle.c62_bound.specs.Laws.{IsSeated}
use Rattle.c62_refute.specs.declared.window.Window.{Window as Cycles}

-- the cycle is left
abbrev pub IsIn : Cycles → ℕ → Type 0
IsIn window cycle = (window.first ≤ cycle) × (cycle ≤ window.last)

-- each instruction is issued in a cycle that is left to it
abbrev pub AreIn : List Cycles → Spots → Type 0
AreIn windows set = (i : ℕ) (window : Cycles) (s : Spot) → slice_get windows i ≡ Some window → IsAt set i s → IsIn window s.cycle

-- In no schedule is each instruction issued in a cycle that is left to it. Of schedules no more is asked than IsSeated says: distances,
-- and one instruction on a unit and on a data path in a cycle.
abbrev pub HoldNone : List Insn → List Cycles → Type 0
HoldNone block windows = (set : Spots) (cycles : ℕ) → IsSeated block set cycles → AreIn windows set → ⊥

-- what the old windows hold the new ones hold
abbrev pub KeepAll : List Insn → List Cycles → List Cycles → Type 0
KeepAll block old new = (set : Spots) (cycles : ℕ) → IsSeated block set cycles → AreIn old set → AreIn new set

-- they hold each schedule of at most so many cycles
abbrev pub HoldAll : List Insn → ℕ → List Cycles → Type 0
HoldAll block most windows = (set : Spots) (cycles : ℕ) → IsSeated block set cycles → cycles ≤ most → AreIn windows set

-- no schedule takes at most so many cycles
abbrev pub IsRefuted : List Insn → ℕ → Type 0
IsRefuted block most = (set : Spots) (cycles : ℕ) → IsSeated block set cycles → cycles ≤ most → ⊥

-- each schedule takes at least so many cycles
abbrev pub TakesAtLeast : List Insn → ℕ → Type 0
TakesAtLeast block least = (set : Spots) (cycles : ℕ) → IsSeated block set cycles → least ≤ cycles

-- as many windows that hold what the old ones hold, or none where these hold none
pub record IsKept (block : List Insn) (old new : List Cycles) : Type 0 where
  pub sized : length new ≡ length block
  pub keeps : KeepAll block old new

abbrev pub IsShrunk : List Insn → List Cycles → Option (Vec Cycles Global) → Type 0
IsShrunk block old found = MatchOption found (HoldNone block old) (λ windows. IsKept block old windows.items)
