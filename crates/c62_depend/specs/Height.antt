-- How urgent an instruction is: the longest path of latencies that begins with it.
use Rattle.std.specs.Prelude.{◌≡◌, ◌⊎◌, ℕ, zero, suc, ◌+◌, ◌-◌, ◌<◌, ◌≤◌, slice_index, max, ℤ, pos, negsuc, ◌+ℤ◌, ◌≤ℤ◌, List, length, map, Option, Some, None, slice_get, fold}
use Rattle.std.specs.List.{range_with_len}
use Rattle.c62_insn.specs.declared.insn.Insn.{Insn}
use Rattle.c62_op.specs.Shape.{delay_of}
use Rattle.c62_insn.specs.Insn.{op_of}
use Rattle.c62_depend.specs.declared.links.Link.{Link}
use Rattle.c62_depend.specs.Latency.{latency}
use Rattle.c62_depend.specs.Links.{followers}

-- a height that a latency comes before, and 0 where that is below 0
abbrev pub raised : ℤ → ℕ → ℕ
raised (pos latency) height = latency + height
raised (negsuc lead) height = height - suc lead

-- a height with a latency before it, where there is one
abbrev pub raised_by : Option ℤ → ℕ → ℕ
raised_by None height = 0
raised_by (Some latency) height = raised latency height

abbrev pub delay_in : Option Insn → ℕ
delay_in None = 0
delay_in (Some insn) = delay_of (op_of insn)

-- the delay of number i
abbrev pub delay_at : List Insn → ℕ → ℕ
delay_at block i = delay_in (slice_get block i)

-- the greatest of a number and, over these dependences, the latency plus the height behind it
abbrev pub longest : (ℕ → ℕ) → ℕ → List Link → ℕ
longest height least links = fold (λ most link. max most (raised link.latency (height link.number))) least links

-- the longest path from i of at most so many instructions
abbrev pub path_within : List Insn → ℕ → ℕ → ℕ
path_within block zero i = 0
path_within block (suc steps) i = longest (path_within block steps) (delay_at block i) (followers block i)

-- the height of number i: no path has more instructions than the block
unfoldable pub height : List Insn → ℕ → ℕ
height block i = path_within block (length block) i

-- the heights of the first numbers
abbrev pub first_heights : List Insn → ℕ → List ℕ
first_heights block count = map (height block) (range_with_len 0 count)

-- the list has the heights of the numbers from i on
pub record AreHeightsFrom (block : List Insn) (i : ℕ) (heights : List ℕ) : Type 0 where
  pub long : length heights ≡ length block
  pub are : (k : ℕ) → i ≤ k → k < length block → slice_index heights k ≡ height block k

-- the rule of heights: the greatest of the delay and, over all that depend on i, the latency plus the height
pub record IsHeight (block : List Insn) (i h : ℕ) : Type 0 where
  pub delay : delay_at block i ≤ h
  pub above : (j : ℕ) (cycles : ℤ) → latency block i j ≡ Some cycles → (cycles +ℤ pos (height block j)) ≤ℤ pos h
  pub attained : (h ≡ delay_at block i) ⊎ ((j : ℕ) × (cycles : ℤ) × (latency block i j ≡ Some cycles) × (cycles +ℤ pos (height block j) ≡ pos h))
