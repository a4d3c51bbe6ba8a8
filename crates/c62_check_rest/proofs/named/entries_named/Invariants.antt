use Rattle.std.proofs.Common.{◌≡◌, map, take}
use Rattle.c62_read.specs.Program.{aimed, numbered_of}
use Rattle.c62_check_rest.proofs.named.entries_named.Given as goal

abbrev pub invariant-loop-entry : goal.invariant-loop-entry
invariant-loop-entry l = map numbered_of l.named.items ≡ map (aimed l.label)
    (map numbered_of (take l.entry-index l.entries))
