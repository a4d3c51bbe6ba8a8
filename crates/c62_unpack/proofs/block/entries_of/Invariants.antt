use Rattle.std.proofs.Common.{◌≡◌, ◌++◌, drop}
use Rattle.std.specs.Prelude.{map}
use Rattle.c62_unpack.specs.Unpacked.{entry_of}
use Rattle.c62_unpack.proofs.block.entries_of.Given as goal

abbrev pub invariant-loop-each : goal.invariant-loop-each
invariant-loop-each l = l.entries.items ++ map entry_of (drop l.each-index l.placed) ≡ map entry_of l.placed
