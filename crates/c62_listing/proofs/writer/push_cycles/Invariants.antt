use Rattle.std.proofs.Common.{◌≡◌, ◌++◌, drop}
use Rattle.std.specs.Prelude.{string_bytes}
use Rattle.c62_listing.specs.Listing.{name_in, cycle_lines, text_of}
use Rattle.c62_listing.proofs.writer.push_cycles.Given as goal

abbrev pub invariant-loop-each : goal.invariant-loop-each
invariant-loop-each l =
    string_bytes l.out ++ text_of (cycle_lines (name_in l.blocks) l.next l.length (drop l.each-index l.placed))
    ≡ string_bytes l.fn.out ++ text_of (cycle_lines (name_in l.blocks) 0 l.length l.placed)
