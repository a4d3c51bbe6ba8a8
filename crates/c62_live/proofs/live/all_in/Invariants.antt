use Rattle.std.proofs.Common.{◌≡◌, ◌++◌, drop}
use Rattle.std.specs.Prelude.{map}
use Rattle.c62_live.specs.Live.{earlier}
use Rattle.c62_live.proofs.live.all_in.Given as goal

abbrev pub invariant-loop-each : goal.invariant-loop-each
invariant-loop-each l = l.before.items ++ map (earlier l.placed l.cycle) (drop l.each-index l.tracked) ≡ map
    (earlier l.placed l.cycle) l.tracked
