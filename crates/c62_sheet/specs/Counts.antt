-- How many instructions are placed and ready, and how long what is placed takes.
use Rattle.std.specs.Prelude.{◌≡◌, ◌⊎◌, ℕ, zero, suc, ◌+◌, List, length, IsSome}
use Rattle.c62_op.specs.declared.register.Side.{Side}
use Rattle.c62_op.specs.declared.register.Side.TheVariants.{A, B}
use Rattle.c62_insn.specs.declared.insn.Insn.{Insn}
use Rattle.c62_rules.specs.PacketRules.{issued}
use Rattle.c62_rules.specs.Length.{length_of}
use Rattle.c62_depend.specs.Side.{side}
use Rattle.c62_sheet.specs.declared.entry.Counts.{Counts}
use Rattle.c62_sheet.specs.Lawful.{Spots, spot_at, issues}
use Rattle.c62_sheet.specs.Least.{IsReadyOn}

-- exactly so many of the numbers below n are such
abbrev pub HasCount : (ℕ → Type 0) → ℕ → ℕ → Type 0
HasCount Is zero count = count ≡ 0
HasCount Is (suc n) count = (Is n × ((before : ℕ) × (count ≡ before + 1) × HasCount Is n before)) ⊎ ((Is n → ⊥) × HasCount Is n count)

-- a placed number of a side
pub record IsPlacedOn (block : List Insn) (set : Spots) (of : Side) (i : ℕ) : Type 0 where
  pub placed : IsSome (spot_at set i)
  pub sided : side block i ≡ of

-- of each side, how many numbers are placed, and how many are ready
pub record AreCounts (block : List Insn) (set : Spots) (counts : Counts) : Type 0 where
  pub placed_a : HasCount (IsPlacedOn block set A) (length block) counts.placed_a
  pub placed_b : HasCount (IsPlacedOn block set B) (length block) counts.placed_b
  pub ready_a : HasCount (IsReadyOn block set A) (length block) counts.ready_a
  pub ready_b : HasCount (IsReadyOn block set B) (length block) counts.ready_b

-- the cycles that what is placed takes
abbrev pub set_length : List Insn → Spots → ℕ
set_length block set = length_of (issued (issues block set))
