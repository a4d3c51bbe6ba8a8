-- How many registers of each side are live at most in a schedule, and which its block leaves alone (docs/SHOW.md, "Registers").
use Rattle.std.specs.Prelude.{◌≡◌, ◌⊎◌, ℕ, ◌<◌, ◌≤◌, nat_le, not, if◌then◌else◌, List}
use Rattle.std.specs.List.{count_by, filter}
use Rattle.c62_op.specs.declared.register.Side.{Side}
use Rattle.c62_op.specs.declared.register.Side.TheVariants.{A, B}
use Rattle.c62_op.specs.declared.register.Reg.{Reg}
use Rattle.c62_packet.specs.declared.placed.Placed.{Placed}
use Rattle.c62_live.specs.declared.lives.Lives.{Lives}
use Rattle.c62_live.specs.declared.lives.SideLives.{SideLives}
use Rattle.c62_live.specs.declared.lives.Most.{Most}
use Rattle.c62_live.specs.Live.{AreRegisters, is_live, is_used}

-- how many of these registers are live in a cycle
abbrev pub live_count : List Placed → List Reg → (cycles cycle : ℕ) → ℕ
live_count placed regs cycles cycle = count_by (λ reg. is_live placed reg cycles cycle) regs

-- the greater number, and of equal ones that of the earlier cycle
abbrev pub better : Most → ℕ → ℕ → Most
better most count cycle = if nat_le most.count count then record { count = count; cycle = cycle } else most

-- of the numbers of these cycles, from this one on, the greatest, and the first cycle that has it
pub record IsGreatestFrom (counts : ℕ → ℕ) (from cycles count cycle : ℕ) : Type 0 where
  pub begins : from ≤ cycle
  pub within : cycle < cycles
  pub is : counts cycle ≡ count
  pub greatest : (k : ℕ) → from ≤ k → k < cycles → counts k ≤ count
  pub first : (k : ℕ) → from ≤ k → k < cycle → counts k < count

-- of a block without cycles 0
abbrev pub IsMost : (ℕ → ℕ) → ℕ → ℕ → ℕ → Type 0
IsMost counts cycles count cycle = ((cycles ≡ 0) × (count ≡ 0)) ⊎ IsGreatestFrom counts 0 cycles count cycle

-- the registers of a side
pub record AreLivesOf (placed : List Placed) (side : Side) (cycles : ℕ) (lives : SideLives) : Type 0 where
  pub regs : List Reg
  pub all : AreRegisters side regs
  pub most : IsMost (live_count placed regs cycles) cycles lives.most lives.cycle
  pub unused : lives.unused.items ≡ filter (λ reg. not (is_used placed reg)) regs

pub record AreLives (placed : List Placed) (cycles : ℕ) (lives : Lives) : Type 0 where
  pub a : AreLivesOf placed A cycles lives.a
  pub b : AreLivesOf placed B cycles lives.b
