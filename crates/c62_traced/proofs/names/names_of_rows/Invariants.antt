use Rattle.std.proofs.Common.{◌≡◌, ◌++◌, drop, map}
use Rattle.c62_traced.specs.Names.{name_at}
use Rattle.c62_traced.proofs.names.names_of_rows.Given as goal

abbrev pub invariant-loop-aim : goal.invariant-loop-aim
invariant-loop-aim l =
    l.names.items ++ map (name_at l.labels.entries) (drop l.aim-index l.rows.aims.items)
    ≡ map (name_at l.labels.entries) l.rows.aims.items
