use Rattle.std.proofs.Common.{◌≡◌, ◌++◌}
use Rattle.std.specs.Prelude.{codes, None}
use Rattle.std.specs.List.{flat_map}
use Rattle.std.specs.Option.{option_copied}
use Rattle.c62_profile.specs.Flights.{blocks_from, rows_in, told_row}
use Rattle.c62_profile.proofs.flights.flight_table.Given as goal

abbrev pub invariant-loop-next : goal.invariant-loop-next
invariant-loop-next l =
    l.out.items ++ flat_map (told_row l.counts l.whole)
    (blocks_from (rows_in l.counts) (option_copied l.label) l.first l.next-iterator)
    ≡ (l.fn.out.items ++ codes "block runs cycles share\n") ++ flat_map (told_row l.counts l.whole)
    (blocks_from (rows_in l.counts) None 0 l.labels.entries)
