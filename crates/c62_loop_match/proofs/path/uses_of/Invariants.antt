use Rattle.std.proofs.Common.{◌≡◌, take}
use Rattle.c62_pair.specs.Uses.{insns_in}
use Rattle.c62_loop.specs.Whole.{insns_in as insns_of_entries}
use Rattle.c62_loop_match.proofs.path.uses_of.Given as goal

abbrev pub invariant-loop-entry : goal.invariant-loop-entry
invariant-loop-entry l = insns_in l.uses.items ≡ insns_of_entries (take l.entry-index l.entries)
