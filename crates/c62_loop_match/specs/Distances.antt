-- Distances between the instances of a path (docs/MACHINE.md, "Dependences").
use Rattle.std.specs.Prelude.{◌≡◌, ℕ, ◌+◌, ◌*◌, ◌<◌, ◌≤◌, ℤ, pos, ◌+ℤ◌, ◌≤ℤ◌, nat_lt, Bool, false, not, ◌&&◌, ◌||◌, List, length, slice_get, Option, Some}
use Rattle.c62_op.specs.declared.register.Cond.{Cond as Condition}
use Rattle.c62_insn.specs.declared.insn.Insn.{Insn}
use Rattle.c62_rules.specs.Dependence.{are_opposite, are_exclusive, are_apart, are_disjoint}
use Rattle.c62_pair.specs.declared.reg_set.RegSet.{RegSet}
use Rattle.c62_pair.specs.declared.covered.Covered.{Covered}
use Rattle.c62_pair.specs.RegSet.{reg_in}
use Rattle.c62_pair.specs.Covered.{range_is}
use Rattle.c62_depend.specs.Latency.{latency_of}
use Rattle.c62_loop.specs.Stage.{Straights, begin_of}
use Rattle.c62_loop_match.specs.declared.borders.Borders.{Borders}
use Rattle.c62_loop_match.specs.declared.path.Instance.{Instance}

-- ---- where these registers are written between

abbrev pub exclusive_under : RegSet → Option Condition → Option Condition → Bool
exclusive_under written (Some one) (Some other) = are_opposite one other && not (reg_in written one.reg)
exclusive_under written _ _ = false

abbrev pub disjoint_under : RegSet → Option Covered → Option Covered → Bool
disjoint_under written (Some one) (Some other) = are_apart (range_is one) (range_is other) && not (reg_in written one.base)
disjoint_under written _ _ = false

-- ---- pairs

-- one cycle exceeds another by as much as is needed
abbrev pub IsKept : Option ℤ → ℕ → ℕ → Type 0
IsKept needed first second = (needs : ℤ) → needed ≡ Some needs → (pos first +ℤ needs) ≤ℤ pos second

-- instance j, of one part of a path, comes as many cycles behind instance i, of another, as it must; what is promised needs no order in
-- memory from an earlier part to a later one
abbrev pub KeepsPair : (Insn → Insn → Bool) → List Insn → List Instance → ℕ → ℕ → ℕ → ℕ → Type 0
KeepsPair promised path instances from to i j = (p q : Insn) (x y : Instance) → slice_get path i ≡ Some p → slice_get path j ≡ Some q
    → slice_get instances i ≡ Some x → slice_get instances j ≡ Some y
    → IsKept (latency_of (are_exclusive path i j) (are_disjoint path i j || (nat_lt from to && promised p q)) p q) x.cycle y.cycle

-- ---- parts

-- the loop's block has so many instructions, and its iterations begin and end with these numbers
pub record Parts (straights : Straights) (borders : Borders) : Type 0 where
  pub begins : borders.begin ≡ length straights.before
  pub block : borders.body ≡ length straights.body
  pub ends : borders.end ≡ borders.begin + borders.trips * borders.body

-- A number of the path lies in this part: so many iterations, and what stands behind the last, have begun by it. 0 is what stands
-- before the loop, t + 1 is iteration t.
pub record IsPart (straights : Straights) (trips i part : ℕ) : Type 0 where
  pub within : part ≤ trips + 1
  pub begun : (t : ℕ) → t < part → begin_of straights t ≤ i
  pub ahead : (t : ℕ) → part ≤ t → t ≤ trips → i < begin_of straights t

-- the bounds that are asked of i and j, where those of memory are excused that are promised between parts
pub record KeepsParted (promised : Insn → Insn → Bool) (straights : Straights) (trips : ℕ) (path : List Insn) (instances : List Instance) (i j : ℕ) : Type 0 where
  pub from : ℕ
  pub to : ℕ
  pub first : IsPart straights trips i from
  pub second : IsPart straights trips j to
  pub keeps : KeepsPair promised path instances from to i j
