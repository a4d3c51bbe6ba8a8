use Rattle.std.proofs.Common.{◌≡◌, map, take}
use Rattle.c62_loop_match.specs.Reading.{unlined}
use Rattle.c62_loop_match.proofs.unlined.all_unlined.Given as goal

abbrev pub invariant-loop-each : goal.invariant-loop-each
invariant-loop-each l = l.plain.items ≡ map unlined (take l.each-index l.placed)
