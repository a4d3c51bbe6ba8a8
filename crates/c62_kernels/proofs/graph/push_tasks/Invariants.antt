use Rattle.std.proofs.Common.{◌≡◌, ◌++◌, drop}
use Rattle.c62_kernels.specs.Tasks.{entries_of}
use Rattle.c62_kernels.proofs.graph.push_tasks.Given as goal

abbrev pub invariant-loop-entry : goal.invariant-loop-entry
invariant-loop-entry l =
    entries_of l.tasks.items ++ drop l.entry-index l.entries ≡ entries_of l.initial.tasks.items ++ l.entries
