-- The dependence that keeps an instruction in its cycle (docs/SHOW.md, "Why not earlier"; docs/MACHINE.md, "Dependences").
use Rattle.std.specs.Prelude.{◌≡◌, ℕ, ◌<◌, ℤ, pos, ◌-ℤ◌, ◌≤ℤ◌, ◌<ℤ◌, List, Option, Some, slice_get, MatchOption}
use Rattle.c62_insn.specs.declared.insn.Insn.{Insn}
use Rattle.c62_packet.specs.declared.placed.Placed.{Placed}
use Rattle.c62_depend.specs.Latency.{latency}
use Rattle.c62_reason.specs.Reason.{IsReason}
use Rattle.c62_why.specs.declared.held.Held.{Held}

-- by how many cycles q comes behind p
abbrev pub gap_of : Placed → Placed → ℤ
gap_of p q = pos q.cycle -ℤ pos p.cycle

-- number j depends on number i, and comes no later behind it than it must: a cycle earlier it would come too early
pub record IsHeldBehind (block : List Insn) (placed : List Placed) (i j : ℕ) (held : Held) : Type 0 where
  pub one : Placed
  pub other : Placed
  pub is_one : slice_get placed i ≡ Some one
  pub is_other : slice_get placed j ≡ Some other
  pub after : held.after ≡ one.line
  pub needs : latency block i j ≡ Some held.needs
  pub tight : gap_of one other ≤ℤ held.needs
  pub reason : IsReason block i j held.needs held.reason

-- number j may come a cycle earlier, as far as number i goes
abbrev pub IsFree : List Insn → List Placed → ℕ → ℕ → Type 0
IsFree block placed i j = (p q : Placed) (needs : ℤ) → slice_get placed i ≡ Some p → slice_get placed j ≡ Some q → latency block i j ≡ Some needs
    → needs <ℤ gap_of p q

-- the first number by which number j is held
pub record IsHeld (block : List Insn) (placed : List Placed) (j : ℕ) (held : Held) : Type 0 where
  pub first : ℕ
  pub behind : IsHeldBehind block placed first j held
  pub before : (i : ℕ) → i < first → IsFree block placed i j

-- number j is held so, or may come a cycle earlier as far as all others go
abbrev pub IsFirstHeld : List Insn → List Placed → ℕ → Option Held → Type 0
IsFirstHeld block placed j found = MatchOption found ((i : ℕ) → IsFree block placed i j) (IsHeld block placed j)
