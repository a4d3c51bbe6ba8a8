-- Where the instructions of a pipelined loop are issued, pass by pass, and what one pass more of the kernel changes
-- (docs/CHECK.md, "Pipelined loops").
use Rattle.std.specs.Prelude.{◌≡◌, ℕ, ℤ, pos, zero, suc, ◌+◌, ◌-◌, ◌≤◌, ◌+ℤ◌, ◌≤ℤ◌, nat_lt, if◌then◌else◌, List, ◌++◌, length, map, All, slice_get, slice_index_or, Some, ◌<◌, Bool, IsTrue}
use Rattle.c62_insn.specs.declared.insn.Insn.{Insn}
use Rattle.c62_packet.specs.declared.placed.Placed.{Placed}
use Rattle.c62_meaning.specs.Cut.{moved}
use Rattle.c62_meaning.specs.Instances.{IsOfMemory, DataBounds}

-- An instruction of the loop: its instances in the prolog, iteration by iteration, that in the first pass of the kernel, and those in
-- the epilog, with the cycles that they have where the kernel isn't passed at all.
pub record Stage : Type 0 where
  pub early : List Placed
  pub kernel : Placed
  pub late : List Placed

-- The instructions before the loop stand in the prolog, those behind it in the epilog, with the same cycles; so many cycles lie
-- between two passes.
pub record Schedule : Type 0 where
  pub before : List Placed
  pub stages : List Stage
  pub behind : List Placed
  pub interval : ℕ

-- the cycles of so many passes
abbrev pub cycles_in : ℕ → ℕ → ℕ
cycles_in interval zero = 0
cycles_in interval (suc passes) = cycles_in interval passes + interval

-- Its instance of iteration t: in the prolog as long as one is there, then in pass after pass, and at last in the epilog.
abbrev pub instance_of : ℕ → ℕ → ℕ → Stage → Placed
instance_of interval passes t stage =
    if nat_lt t (length stage.early) then slice_index_or stage.early t stage.kernel
    else (if nat_lt t (length stage.early + passes) then moved (cycles_in interval (t - length stage.early)) stage.kernel
    else moved (cycles_in interval passes) (slice_index_or stage.late (t - (length stage.early + passes)) stage.kernel))

-- those of an iteration
abbrev pub round_of : Schedule → ℕ → ℕ → List Placed
round_of schedule passes t = map (instance_of schedule.interval passes t) schedule.stages

-- those of so many iterations from t on, and these behind them
abbrev pub rounds_from : Schedule → ℕ → ℕ → ℕ → List Placed → List Placed
rounds_from schedule passes t zero behind = behind
rounds_from schedule passes t (suc trips) behind = round_of schedule passes t ++ rounds_from schedule passes (suc t) trips behind

-- all, in serial order
abbrev pub placed_of : Schedule → ℕ → ℕ → List Placed
placed_of schedule trips passes =
    schedule.before ++ rounds_from schedule passes 0 trips (map (moved (cycles_in schedule.interval passes)) schedule.behind)

-- the instructions of a loop, straight ones before and behind it
pub record Straights : Type 0 where
  pub before : List Insn
  pub body : List Insn
  pub behind : List Insn

abbrev pub rounds_with : {X : Type 0} → List X → ℕ → List X → List X
rounds_with body zero behind = behind
rounds_with body (suc trips) behind = body ++ rounds_with body trips behind

abbrev pub insns_of : Straights → ℕ → List Insn
insns_of straights trips = straights.before ++ rounds_with straights.body trips straights.behind

-- the number at which iteration t begins, or what stands behind the last
abbrev pub begin_of : Straights → ℕ → ℕ
begin_of straights zero = length straights.before
begin_of straights (suc t) = begin_of straights t + length straights.body

-- Two numbers are not of one iteration, nor both before the loop or behind it: one of these begins behind the first, and by the second.
abbrev pub AreParted : Straights → ℕ → ℕ → ℕ → Type 0
AreParted straights trips i j = (t : ℕ) × (t ≤ trips) × (i < begin_of straights t) × (begin_of straights t ≤ j)

-- Each bound of registers and memory between two of them is kept, but for those of memory between instructions of which it is promised
-- that they never meet but in one iteration.
abbrev pub KeepDistances : (Insn → Insn → Bool) → Straights → ℕ → List Placed → Type 0
KeepDistances promised straights trips placed = (i j : ℕ) (p q : Placed) (bound : ℤ) → slice_get placed i ≡ Some p → slice_get placed j ≡ Some q
    → (asked : DataBounds (insns_of straights trips) i j bound)
    → (IsOfMemory asked.bounds.applies → IsTrue (promised asked.bounds.first asked.bounds.second) → AreParted straights trips i j → ⊥)
    → (pos p.cycle +ℤ bound) ≤ℤ pos q.cycle

-- what stands before the loop and its instructions are placed one for one, and no more iterations than these are begun in the prolog
pub record Places (straights : Straights) (schedule : Schedule) (most : ℕ) : Type 0 where
  pub before : length schedule.before ≡ length straights.before
  pub body : length schedule.stages ≡ length straights.body
  pub early : All (λ stage. length stage.early ≤ most) schedule.stages

-- Where a prolog and an epilog hold as much of each instruction as so many iterations, and three passes more than these keep all distances, so does
-- any number of passes beyond.
abbrev pub KeptInMorePasses : (Insn → Insn → Bool) → Straights → Schedule → ℕ → Type 0
KeptInMorePasses promised straights schedule most = Places straights schedule most
    → KeepDistances promised straights (most + (most + 3)) (placed_of schedule (most + (most + 3)) (most + 3))
    → (passes : ℕ) → most + 3 ≤ passes → KeepDistances promised straights (most + passes) (placed_of schedule (most + passes) passes)
