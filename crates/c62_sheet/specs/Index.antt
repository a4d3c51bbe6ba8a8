-- The index of a set of placements: of each number, how many that it depends on directly are missing.
use Rattle.std.specs.Prelude.{◌≡◌, ◌==◌, ℕ, ◌+◌, ◌<◌, Bool, List, length, slice_index, count_by, is_none}
use Rattle.c62_insn.specs.declared.insn.Insn.{Insn}
use Rattle.c62_depend.specs.declared.links.Link.{Link}
use Rattle.c62_depend.specs.Direct.{direct_needs}
use Rattle.c62_sheet.specs.Lawful.{Spots, spot_at, nothing_placed}

abbrev pub is_missing : Spots → Link → Bool
is_missing set link = is_none (spot_at set link.number)

-- how many of those that j depends on directly are not placed
abbrev pub lacking : List Insn → Spots → ℕ → ℕ
lacking block set j = count_by (is_missing set) (direct_needs block j)

-- each number's count tells how many of those that it depends on directly are missing
pub record IsIndex (block : List Insn) (set : Spots) (missing : List ℕ) : Type 0 where
  pub sized : length missing ≡ length block
  pub each : (j : ℕ) → j < length block → slice_index missing j ≡ lacking block set j

-- the same while nothing is placed
abbrev pub IsFirstIndex : List Insn → List ℕ → Type 0
IsFirstIndex block missing = IsIndex block (nothing_placed (length block)) missing

-- how often a number is the other end of one of these dependences
abbrev pub times : ℕ → List Link → ℕ
times j links = count_by (λ link. link.number == j) links

-- each number's count is less, by how often it is the other end of one of these dependences
abbrev pub AreLower : List Link → List ℕ → List ℕ → Type 0
AreLower links old new = (j : ℕ) → slice_index new j + times j links ≡ slice_index old j

-- it is greater by that
abbrev pub AreHigher : List Link → List ℕ → List ℕ → Type 0
AreHigher links old new = (j : ℕ) → slice_index new j ≡ slice_index old j + times j links
