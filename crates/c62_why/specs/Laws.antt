-- Laws of what keeps instructions in their cycles, in the words of the rules.
use Rattle.std.specs.Prelude.{◌≡◌, ℕ, ◌+◌, ◌-◌, ◌<◌, ◌≤◌, ℤ, pos, ◌-ℤ◌, ◌≤ℤ◌, List, ◌∷◌, ◌++◌, All, Contains, length, Some}
use Rattle.c62_insn.specs.declared.insn.Insn.{Insn}
use Rattle.c62_rules.specs.declared.resource.Resource.{Resource}
use Rattle.c62_rules.specs.Resource.{rule_of, taken_by}
use Rattle.c62_rules.specs.Capacity.{IsEnough, IsBroken}
use Rattle.c62_packet.specs.declared.placed.Placed.{Placed}
use Rattle.c62_packet.specs.Packed.{issued}
use Rattle.c62_depend.specs.Plan.{IsPlan}
use Rattle.c62_depend.specs.Latency.{latency}
use Rattle.c62_depend.specs.Height.{height, delay_at}
use Rattle.c62_sheet.specs.Lawful.{Spots, IsAt}
use Rattle.c62_sheet.specs.declared.entry.Spot.{Spot}
use Rattle.c62_bound.specs.Laws.{IsSeated}
use Rattle.c62_why.specs.declared.taken.Taken.{Taken}
use Rattle.c62_why.specs.Taken.{IsEnoughFor, IsLacking}
use Rattle.c62_why.specs.Why.{latest_of}

-- the same instruction a cycle earlier
abbrev pub earlier : Placed → Placed
earlier one = record one { cycle = one.cycle - 1 }

-- the schedule in which it is, with all others where they are
abbrev pub moved : List Placed → Placed → List Placed → List Placed
moved before one behind = before ++ earlier one ∷ behind

-- an instruction that is put a cycle earlier breaks there the packet rule of what it lacks
abbrev pub LackingBreaks : List Placed → Placed → List Placed → Resource → Taken → Type 0
LackingBreaks before one behind r taken =
    0 < one.cycle → IsLacking (before ++ one ∷ behind) one r taken → IsBroken (rule_of r) (one.cycle - 1) (issued (moved before one behind))

-- and where there is enough of a resource for it, there is enough with it
abbrev pub EnoughIsKept : List Placed → Placed → List Placed → Resource → Type 0
EnoughIsKept before one behind r =
    0 < one.cycle → IsEnoughFor (before ++ one ∷ behind) one r → IsEnough r (one.cycle - 1) (issued (moved before one behind))

-- The latest cycles are those of a schedule of so many cycles, as far as dependences go: they keep all of them, and all delays
-- end in time. In no schedule of so many cycles an instruction comes later.
pub record LatestAreLatest (block : List Insn) (cycles : ℕ) : Type 0 where
  pub kept : (i j : ℕ) (needs : ℤ) → latency block i j ≡ Some needs → needs ≤ℤ (pos (latest_of block cycles j) -ℤ pos (latest_of block cycles i))
  pub ends : (j : ℕ) → j < length block → latest_of block cycles j + delay_at block j + 1 ≤ cycles
  pub last : (set : Spots) (j : ℕ) (s : Spot) → IsSeated block set cycles → j < length block → IsAt set j s → s.cycle ≤ latest_of block cycles j

-- this holds where the schedule is as long as the critical path
abbrev pub SlackIsExact : List Insn → ℕ → Type 0
SlackIsExact block cycles = IsPlan block → ((i : ℕ) → i < length block → height block i + 1 ≤ cycles) → LatestAreLatest block cycles
