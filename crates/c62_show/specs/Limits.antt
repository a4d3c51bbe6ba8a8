-- How short a schedule of a block can be at best, and why (docs/SCHEDULING.md, "Needs" and "Raised heights").
use Rattle.std.specs.Prelude.{◌≡◌, ℕ, ◌+◌, ◌-◌, max, List, length, map, Option, Some, None, slice_get}
use Rattle.c62_read.specs.declared.block.SerialInsn.{SerialInsn}
use Rattle.c62_read.specs.Block.{Serial}
use Rattle.c62_depend.specs.Plan.{insns_of}
use Rattle.c62_depend.specs.Latency.{latency}
use Rattle.c62_reason.specs.Reason.{IsReason}
use Rattle.c62_bound.specs.Bound.{FindsNeed}
use Rattle.c62_bound.specs.Path.{IsPathLength, IsCriticalPath}
use Rattle.c62_raised.specs.Raised.{IsRaisedLength}
use Rattle.c62_refute.specs.Window.{TakesAtLeast}
use Rattle.c62_show.specs.declared.limits.Limits.{Limits}
use Rattle.c62_show.specs.declared.limits.Step.{Step}

abbrev pub line_in : Option SerialInsn → ℕ
line_in None = 0
line_in (Some entry) = entry.line

-- the line of an instruction of a block, or 0 where there is none of this number
abbrev pub line_of : List SerialInsn → ℕ → ℕ
line_of insns number = line_in (slice_get insns number)

-- the step from number i to number j: the line of j, the latency between the two, and the reason of this dependence
pub record IsStep (block : Serial) (i j : ℕ) (step : Step) : Type 0 where
  pub line : step.line ≡ line_of block.insns j
  pub cycles : latency (insns_of block) i j ≡ Some step.cycles
  pub reason : IsReason (insns_of block) i j step.cycles step.reason

-- from each number of a path to the next one a step
pub record AreSteps (block : Serial) (path : List ℕ) (steps : List Step) : Type 0 where
  pub count : length steps ≡ length path - 1
  pub each : (k i j : ℕ) (step : Step) → slice_get path k ≡ Some i → slice_get path (k + 1) ≡ Some j → slice_get steps k ≡ Some step
      → IsStep block i j step

-- the length of the block's critical path, the lines of one and the steps between them, the greatest need, the raised bound, and how
-- many cycles each schedule takes at least as a search tells
pub record AreLimits (block : Serial) (limits : Limits) : Type 0 where
  pub path_length : IsPathLength (insns_of block) limits.path_length
  pub path : List ℕ
  pub is_path : IsCriticalPath (insns_of block) path
  pub lines : limits.path.items ≡ map (line_of block.insns) path
  pub steps : AreSteps block path limits.steps.items
  pub need : FindsNeed (insns_of block) limits.need
  pub raised : IsRaisedLength (insns_of block) limits.raised
  pub searched : TakesAtLeast (insns_of block) limits.searched

-- these, where no search tells more
pub record ArePlainLimits (block : Serial) (limits : Limits) : Type 0 where
  pub are : AreLimits block limits
  pub plain : limits.searched ≡ 0

-- how many cycles each schedule takes at least: the raised bound, or more where a search tells that
abbrev pub least_of : Limits → ℕ
least_of limits = max limits.raised limits.searched
