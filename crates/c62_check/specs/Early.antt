-- Which instructions of a block come too early, where they are placed so (docs/MACHINE.md, "Dependences").
use Rattle.std.specs.Prelude.{◌≡◌, ◌⊎◌, ℕ, ◌<◌, ℤ, pos, ◌-ℤ◌, ◌≤ℤ◌, ◌<ℤ◌, List, map, All, Contains, Option, Some, slice_get, MatchOption}
use Rattle.std.specs.List.Sorted.{IsStrictlyIncreasing}
use Rattle.c62_insn.specs.declared.insn.Insn.{Insn}
use Rattle.c62_packet.specs.declared.placed.Placed.{Placed}
use Rattle.c62_depend.specs.Latency.{latency}
use Rattle.c62_depend.specs.Direct.{IsDirect}
use Rattle.c62_check.specs.declared.early.Early.{Early}
use Rattle.c62_reason.specs.Reason.{IsReason}

-- by how many cycles q comes behind p
abbrev pub gap_of : Placed → Placed → ℤ
gap_of p q = pos q.cycle -ℤ pos p.cycle

-- number j comes as many cycles behind number i as it must
abbrev pub Keeps : List Insn → List Placed → ℕ → ℕ → Type 0
Keeps block placed i j = (p q : Placed) (needs : ℤ) → slice_get placed i ≡ Some p → slice_get placed j ≡ Some q → latency block i j ≡ Some needs
    → needs ≤ℤ gap_of p q

-- number j comes as many cycles behind every other as it must
abbrev pub KeepsAll : List Insn → List Placed → ℕ → Type 0
KeepsAll block placed j = (i : ℕ) → Keeps block placed i j

-- number j comes so many cycles behind number i
abbrev pub IsKept : List Placed → ℕ → ℕ → ℤ → Type 0
IsKept placed i j needs = (p q : Placed) → slice_get placed i ≡ Some p → slice_get placed j ≡ Some q → needs ≤ℤ gap_of p q

-- number j comes as many cycles behind all that it depends on directly as it must
abbrev pub KeepsNeeds : List Insn → List Placed → ℕ → Type 0
KeepsNeeds block placed j = (i : ℕ) (needs : ℤ) → IsDirect block i j needs → IsKept placed i j needs

-- an instruction comes too early behind number i, by the latency between the two and for its reason
pub record IsEarlyBehind (block : List Insn) (placed : List Placed) (i : ℕ) (early : Early) : Type 0 where
  pub one : Placed
  pub other : Placed
  pub is_one : slice_get placed i ≡ Some one
  pub is_other : slice_get placed early.number ≡ Some other
  pub after : early.after ≡ one.line
  pub line : early.line ≡ other.line
  pub needs : latency block i early.number ≡ Some early.needs
  pub has : early.has ≡ gap_of one other
  pub too_early : early.has <ℤ early.needs
  pub reason : IsReason block i early.number early.needs early.reason

-- it is told of the first number that it comes too early behind
pub record IsEarly (block : List Insn) (placed : List Placed) (early : Early) : Type 0 where
  pub first : ℕ
  pub behind : IsEarlyBehind block placed first early
  pub before : (i : ℕ) → i < first → Keeps block placed i early.number

-- what is found of number j
abbrev pub IsEarlyAt : List Insn → List Placed → ℕ → Option Early → Type 0
IsEarlyAt block placed j found = MatchOption found (KeepsAll block placed j) (λ early. (early.number ≡ j) × IsEarly block placed early)

abbrev pub numbers_of : List Early → List ℕ
numbers_of early = map (λ each. each.number) early

-- these are all that come too early, in the order of the block
pub record AreEarly (block : List Insn) (placed : List Placed) (early : List Early) : Type 0 where
  pub all : All (IsEarly block placed) early
  pub rising : IsStrictlyIncreasing (numbers_of early)
  pub others : (j : ℕ) → Contains (numbers_of early) j ⊎ KeepsAll block placed j
