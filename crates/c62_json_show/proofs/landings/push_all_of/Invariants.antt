use Rattle.std.proofs.Common.{◌≡◌, ◌++◌, drop}
use Rattle.std.specs.List.{flat_map}
use Rattle.c62_json_show.specs.Landings.{landing}
use Rattle.c62_json_show.proofs.landings.push_all_of.Given as goal

abbrev pub invariant-loop-each : goal.invariant-loop-each
invariant-loop-each l =
    (l.out.tokens ++ flat_map (landing l.line) (drop l.each-index l.found)
    ≡ l.fn.out.tokens ++ flat_map (landing l.line) l.found)
    × (l.out.before ≡ l.fn.out.before)
