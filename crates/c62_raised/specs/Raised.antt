-- How many cycles follow behind an instruction at least, by what crowds behind it (docs/SCHEDULING.md, "Raised heights").
use Rattle.std.specs.Prelude.{◌≡◌, ◌⊎◌, ℕ, ◌+◌, ◌<◌, ◌≤◌, ℤ, pos, List, [], ◌∷◌, length, Option, Some, None}
use Rattle.c62_insn.specs.declared.insn.Insn.{Insn}
use Rattle.c62_depend.specs.Height.{raised, delay_at}
use Rattle.c62_raised.specs.declared.room.Room.{Room}
use Rattle.c62_raised.specs.declared.crowd.Crowd.{Crowd}
use Rattle.c62_raised.specs.Chain.{AreLongest}
use Rattle.c62_raised.specs.Crowd.{IsCrowdOf, cycles_of}

-- so many cycles follow by a delay, by a number that comes behind, or by a crowd of these
abbrev pub IsReached : List Insn → (ℕ → ℕ) → (ℕ → Option ℤ) → ℕ → ℕ → Type 0
IsReached block height lead delay cycles =
    (cycles ≡ delay)
    ⊎ (((j : ℕ) × (before : ℤ) × (lead j ≡ Some before) × (cycles ≡ raised before (height j)))
    ⊎ ((room : Room) × (last : ℕ) × (crowd : Crowd) × IsCrowdOf block height lead room last crowd × (cycles ≡ cycles_of crowd)))

-- the greatest of these
pub record IsRaised (block : List Insn) (height : ℕ → ℕ) (lead : ℕ → Option ℤ) (delay cycles : ℕ) : Type 0 where
  pub own : delay ≤ cycles
  pub ones : (j : ℕ) (before : ℤ) → lead j ≡ Some before → raised before (height j) ≤ cycles
  pub crowds : (room : Room) (last : ℕ) (crowd : Crowd) → IsCrowdOf block height lead room last crowd → cycles_of crowd ≤ cycles
  pub attained : IsReached block height lead delay cycles

-- the raised height of number i, by those of the numbers behind it
abbrev pub IsRaisedAt : List Insn → (ℕ → ℕ) → ℕ → Type 0
IsRaisedAt block height i = (lead : ℕ → Option ℤ) × AreLongest block i lead × IsRaised block height lead (delay_at block i) (height i)

abbrev pub AreRaised : List Insn → (ℕ → ℕ) → Type 0
AreRaised block height = (i : ℕ) → i < length block → IsRaisedAt block height i

-- behind the begin of a block comes each number at once, or later
pub record AreAtOnce (block : List Insn) (lead : ℕ → Option ℤ) : Type 0 where
  pub each : (j : ℕ) → j < length block → lead j ≡ Some (pos 0)
  pub others : (j : ℕ) → length block ≤ j → lead j ≡ None

-- the cycles of a block: its first one, and what follows behind it
abbrev pub with_first : List Insn → ℕ → ℕ
with_first [] behind = 0
with_first (insn ∷ block) behind = behind + 1

-- the raised bound of a block: what its begin would have as raised height makes it
pub record IsRaisedLength (block : List Insn) (cycles : ℕ) : Type 0 where
  pub height : ℕ → ℕ
  pub heights : AreRaised block height
  pub lead : ℕ → Option ℤ
  pub at_once : AreAtOnce block lead
  pub behind : ℕ
  pub is : IsRaised block height lead 0 behind
  pub whole : cycles ≡ with_first block behind
