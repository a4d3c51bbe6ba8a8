use Rattle.std.proofs.Common.{◌≡◌, ◌++◌, take}
use Rattle.std.specs.List.{flat_map}
use Rattle.c62_check_loop.specs.Lines.{fault_words}
use Rattle.c62_check_loop.proofs.lines.push_faults.Given as goal

abbrev pub invariant-loop-entry : goal.invariant-loop-entry
invariant-loop-entry l = l.out.items ≡ l.fn.out.items ++ flat_map (fault_words l.but) (take l.entry-index l.block)
