use Rattle.std.proofs.Common.{◌≡◌, ◌++◌}
use Rattle.std.specs.Prelude.{replicate, string_bytes}
use Rattle.c62_listing.specs.Listing.{pause_line, text_of}
use Rattle.c62_listing.proofs.writer.push_idle.Given as goal

abbrev pub invariant-loop : goal.invariant-loop
invariant-loop l = string_bytes l.out ≡ string_bytes l.fn.out ++ text_of (replicate l.counter (pause_line 9))
