use Rattle.std.proofs.Common.{◌≡◌, map, take}
use Rattle.c62_loop_match.specs.Reading.{entry_unlined}
use Rattle.c62_loop_match.proofs.unlined.entries_unlined.Given as goal

abbrev pub invariant-loop-entry : goal.invariant-loop-entry
invariant-loop-entry l = l.plain.items ≡ map entry_unlined (take l.entry-index l.entries)
