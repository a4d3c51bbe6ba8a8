-- How long each schedule of a block is at least (docs/SCHEDULING.md, "Needs").
use Rattle.std.specs.Prelude.{◌≡◌, ◌⊎◌, ℕ, ◌+◌, ◌<◌, ◌≤◌, List, length}
use Rattle.c62_insn.specs.declared.insn.Insn.{Insn}
use Rattle.c62_depend.specs.Height.{height}
use Rattle.c62_bound.specs.declared.need.Need.{Need}
use Rattle.c62_bound.specs.Bound.{IsNeed, cycles_of}

-- so many cycles are needed: by a height and the cycle of its instruction, or by a need
abbrev pub IsNeeded : List Insn → ℕ → Type 0
IsNeeded block cycles = ((i : ℕ) × (i < length block) × (height block i + 1 ≡ cycles)) ⊎ ((need : Need) × IsNeed block need × (cycles_of need ≡ cycles))

-- the most that is needed, and 0 where nothing is
pub record IsLeastLength (block : List Insn) (cycles : ℕ) : Type 0 where
  pub covers : (fewer : ℕ) → IsNeeded block fewer → fewer ≤ cycles
  pub attained : 0 < cycles → IsNeeded block cycles
