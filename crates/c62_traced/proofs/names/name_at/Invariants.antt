use Rattle.std.proofs.Common.{◌≡◌}
use Rattle.c62_traced.specs.Names.{name_at}
use Rattle.c62_traced.proofs.names.name_at.Given as goal

abbrev pub invariant-loop-key : goal.invariant-loop-key
invariant-loop-key l = name_at l.key-iterator l.row ≡ name_at l.labels.entries l.row
