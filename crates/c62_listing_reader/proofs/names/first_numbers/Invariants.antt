use Rattle.std.proofs.Common.{◌≡◌, ◌+◌, ◌≤◌, length}
use Rattle.c62_listing_reader.specs.Said.{names_in}
use Rattle.c62_listing_reader.specs.Faults.{contents}
use Rattle.c62_listing_reader.specs.Named.{number_at, number_in, or_number}
use Rattle.c62_read.specs.Program.{Name}
use Rattle.c62_listing_reader.proofs.names.first_numbers.Given as goal

abbrev pub invariant-loop-cut : goal.invariant-loop-cut
invariant-loop-cut l = record {
  first : (label : Name) → or_number (number_at l.numbers label) (number_in (names_in l.number (contents l.rest)) label)
      ≡ number_in (names_in 0 (contents l.text)) label;
  bound : l.number + length l.rest ≤ length l.text;
}

abbrev pub decreases-loop-cut : goal.decreases-loop-cut
decreases-loop-cut l = length l.rest
