use Rattle.std.proofs.Common.{◌≡◌, ◌++◌, drop}
use Rattle.c62_json_show.specs.Landings.{landings}
use Rattle.c62_json_show.proofs.landings.push_each.Given as goal

abbrev pub invariant-loop-each : goal.invariant-loop-each
invariant-loop-each l =
    (l.out.tokens ++ landings (drop l.each-index l.placed) ≡ l.fn.out.tokens ++ landings l.placed)
    × (l.out.before ≡ l.fn.out.before)
