use Rattle.std.proofs.Common.{◌≡◌, ◌++◌}
use Rattle.std.specs.Prelude.{None}
use Rattle.std.specs.List.{flat_map}
use Rattle.std.specs.Option.{option_copied}
use Rattle.c62_profile.specs.Flights.{blocks_from, rows_in}
use Rattle.c62_json_report.specs.Profile.{told_row}
use Rattle.c62_json_report.proofs.flights.push_blocks.Given as goal

abbrev pub invariant-loop-next : goal.invariant-loop-next
invariant-loop-next l =
    (l.out.tokens ++ flat_map (told_row l.counts l.whole)
    (blocks_from (rows_in l.counts) (option_copied l.label) l.first l.next-iterator)
    ≡ l.fn.out.tokens ++ flat_map (told_row l.counts l.whole) (blocks_from (rows_in l.counts) None 0 l.labels.entries))
    × (l.out.before ≡ l.fn.out.before)
