use Rattle.std.proofs.Common.{◌≡◌, ◌++◌, drop, map}
use Rattle.c62_faulted.specs.Faulted.{alone, parted}
use Rattle.c62_faulted.proofs.run.parted.Given as goal

abbrev pub invariant-loop-entry : goal.invariant-loop-entry
invariant-loop-entry l = l.parts.items ++ map alone (drop l.entry-index l.block.insns) ≡ parted l.block
