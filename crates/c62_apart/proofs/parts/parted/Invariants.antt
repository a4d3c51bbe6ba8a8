use Rattle.std.proofs.Common.{◌≡◌, ◌++◌, drop, map}
use Rattle.c62_apart.specs.Touch.{alone, parted}
use Rattle.c62_apart.proofs.parts.parted.Given as goal

abbrev pub invariant-loop-entry : goal.invariant-loop-entry
invariant-loop-entry l = l.parts.items ++ map alone (drop l.entry-index l.block.insns) ≡ parted l.block
