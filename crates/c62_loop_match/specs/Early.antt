-- Which instance comes too early behind another one (docs/CHECK.md, "How it is decided"; docs/MACHINE.md, "Dependences").
use Rattle.std.specs.Prelude.{◌≡◌, ℕ, ◌+◌, ◌-◌, ◌<◌, ◌≤◌, ℤ, pos, ◌-ℤ◌, ◌<ℤ◌, nat_lt, Bool, ◌&&◌, ◌||◌, List, map, slice_get, Option, Some}
use Rattle.c62_insn.specs.declared.insn.Insn.{Insn}
use Rattle.c62_rules.specs.Dependence.{are_exclusive, are_disjoint}
use Rattle.c62_packet.specs.declared.placed.Placed.{Placed}
use Rattle.c62_depend.specs.Latency.{latency_of}
use Rattle.c62_loop.specs.Stage.{Straights, Schedule, KeepDistances, insns_of, placed_of}
use Rattle.c62_loop_match.specs.declared.path.Instance.{Instance}
use Rattle.c62_loop_match.specs.declared.early.Early.{Early}
use Rattle.c62_loop_match.specs.declared.distances.Distances.{Distances}
use Rattle.c62_loop_match.specs.declared.distances.Distances.TheVariants.{Kept, TooEarly, Unlike}
use Rattle.c62_loop_match.specs.Path.{instance}
use Rattle.c62_loop_match.specs.Distances.{IsPart}

-- the second needs more cycles behind the first than it has, so many iterations later
pub record IsEarlyBy (needed : Option ℤ) (first second : Instance) (apart : ℕ) (early : Early) : Type 0 where
  pub needs : needed ≡ Some early.needs
  pub has : early.has ≡ pos second.cycle -ℤ pos first.cycle
  pub too_early : early.has <ℤ early.needs
  pub apart_is : early.apart ≡ apart
  pub line : early.line ≡ second.line
  pub after : early.after ≡ first.line

-- so does instance j, of one part of a path, behind instance i, of another, by the latency from i to j: what is promised needs no order
-- in memory from an earlier part to a later one
pub record IsEarlyBehind (promised : Insn → Insn → Bool) (path : List Insn) (instances : List Instance) (from to i j : ℕ) (early : Early) : Type 0 where
  pub p : Insn
  pub q : Insn
  pub is_p : slice_get path i ≡ Some p
  pub is_q : slice_get path j ≡ Some q
  pub first : Instance
  pub second : Instance
  pub is_first : slice_get instances i ≡ Some first
  pub is_second : slice_get instances j ≡ Some second
  pub by : IsEarlyBy (latency_of (are_exclusive path i j) (are_disjoint path i j || (nat_lt from to && promised p q)) p q) first second (to - from) early

-- some instance of the path does, behind one that stands before it
pub record ComesEarly (promised : Insn → Insn → Bool) (straights : Straights) (trips : ℕ) (path : List Insn) (instances : List Instance) (early : Early) : Type 0 where
  pub i : ℕ
  pub j : ℕ
  pub before : i < j
  pub from : ℕ
  pub to : ℕ
  pub part_i : IsPart straights trips i from
  pub part_j : IsPart straights trips j to
  pub behind : IsEarlyBehind promised path instances from to i j early

-- what is found of so many iterations that are placed so holds
abbrev pub AreFound : (Insn → Insn → Bool) → Straights → ℕ → List Placed → Distances → Type 0
AreFound promised straights trips placed Kept = KeepDistances promised straights trips placed
AreFound promised straights trips placed (TooEarly early) = ComesEarly promised straights trips (insns_of straights trips) (map instance placed) early
AreFound promised straights trips placed Unlike = Unit {0}

-- in some number of passes, up to three more than prolog and epilog hold iterations, an instance of the schedule comes so early
pub record IsEarly (promised : Insn → Insn → Bool) (straights : Straights) (schedule : Schedule) (most : ℕ) (early : Early) : Type 0 where
  pub passes : ℕ
  pub some : 0 < passes
  pub few : passes ≤ most + 3
  pub comes : ComesEarly promised straights (most + passes) (insns_of straights (most + passes)) (map instance (placed_of schedule (most + passes) passes)) early

-- and what is found of all these passes
abbrev pub AreFoundOfAll : (Insn → Insn → Bool) → Straights → Schedule → ℕ → Distances → Type 0
AreFoundOfAll promised straights schedule most Kept =
    (passes : ℕ) → 0 < passes → passes ≤ most + 3 → KeepDistances promised straights (most + passes) (placed_of schedule (most + passes) passes)
AreFoundOfAll promised straights schedule most (TooEarly early) = IsEarly promised straights schedule most early
AreFoundOfAll promised straights schedule most Unlike = Unit {0}
