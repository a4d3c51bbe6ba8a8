-- Dependences one behind the other (docs/SCHEDULING.md, "Raised heights").
use Rattle.std.specs.Prelude.{◌≡◌, ℕ, ℤ, ◌+ℤ◌, ◌≤ℤ◌, List, Option, Some, MatchOption, slice_index_or, None}
use Rattle.c62_insn.specs.declared.insn.Insn.{Insn}
use Rattle.c62_depend.specs.Latency.{latency}

-- a chain of dependences leads from number i to number j, with this sum of latencies
pub data Chain (block : List Insn) (i : ℕ) : ℕ → ℤ → Type 0 where
  single : (j : ℕ) (cycles : ℤ) → latency block i j ≡ Some cycles → Chain block i j cycles
  longer : (k j : ℕ) (sum cycles : ℤ) → Chain block i k sum → latency block k j ≡ Some cycles → Chain block i j (sum +ℤ cycles)

-- the length of the longest chain from i to j: none where no chain leads there
abbrev pub IsLongest : List Insn → ℕ → ℕ → Option ℤ → Type 0
IsLongest block i j found =
    MatchOption found ((cycles : ℤ) → Chain block i j cycles → ⊥) (λ most. Chain block i j most × ((cycles : ℤ) → Chain block i j cycles → cycles ≤ℤ most))

-- so many cycles each number comes behind i at least: as many as the longest chain has
abbrev pub AreLongest : List Insn → ℕ → (ℕ → Option ℤ) → Type 0
AreLongest block i lead = (j : ℕ) → IsLongest block i j (lead j)

-- these of a list, and none behind its end
abbrev pub lead_in : List (Option ℤ) → ℕ → Option ℤ
lead_in leads j = slice_index_or leads j None
