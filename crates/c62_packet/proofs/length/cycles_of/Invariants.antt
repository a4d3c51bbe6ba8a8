use Rattle.std.proofs.Common.{◌≡◌, drop}
use Rattle.c62_rules.specs.Length.{length_of}
use Rattle.c62_packet.specs.Packed.{issues_of}
use Rattle.c62_packet.proofs.LengthLemmas.{length_after}
use Rattle.c62_packet.proofs.length.cycles_of.Given as goal

abbrev pub invariant-loop-each : goal.invariant-loop-each
invariant-loop-each l = length_after l.end (issues_of (drop l.each-index l.placed)) ≡ length_of (issues_of l.placed)
