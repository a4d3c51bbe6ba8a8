use Rattle.std.proofs.Common.{◌≡◌, ◌≤◌, length, take}
use Rattle.c62_pair.specs.Uses.{insns_in}
use Rattle.c62_loop.specs.Counter.{work_of}
use Rattle.c62_loop.specs.Whole.{insns_in as insns_of_entries}
use Rattle.c62_loop_bound.proofs.work.work_of.Given as goal

-- the work among those so far
abbrev pub invariant-loop-entry : goal.invariant-loop-entry
invariant-loop-entry l = (insns_in l.work.items ≡ insns_of_entries (work_of l.counter (take l.entry-index l.entries)))
    × (length l.work.items ≤ l.entry-index)
