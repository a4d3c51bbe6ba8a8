-- Chains of dependences (docs/SCHEDULING.md, "Withdrawing").
use Rattle.std.specs.Prelude.{ℕ, ◌<◌, ◌↔◌, Bool, false, List, length, slice_index_or, IsTrue}
use Rattle.c62_insn.specs.declared.insn.Insn.{Insn}
use Rattle.c62_rules.specs.Dependence.{Depends}

-- a chain of dependences leads from number i to j: j is i, or depends on a number to which one leads
pub data Leads (block : List Insn) (i : ℕ) : ℕ → Type 0 where
  start : Leads block i i
  more : (k j : ℕ) → Leads block i k → Depends block k j → Leads block i j

-- the number is marked
abbrev pub IsMarked : List Bool → ℕ → Type 0
IsMarked marks k = IsTrue (slice_index_or marks k false)

-- marked are the numbers of the block that are such, and no others
abbrev pub Marks : List Insn → (ℕ → Type 0) → List Bool → Type 0
Marks block Is marks = (k : ℕ) → k < length block → IsMarked marks k ↔ Is k
