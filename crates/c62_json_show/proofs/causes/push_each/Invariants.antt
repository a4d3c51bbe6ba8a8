use Rattle.std.proofs.Common.{◌≡◌, ◌++◌, drop}
use Rattle.std.specs.List.{flat_map}
use Rattle.c62_json_show.specs.Causes.{cause}
use Rattle.c62_json_show.proofs.causes.push_each.Given as goal

abbrev pub invariant-loop-why : goal.invariant-loop-why
invariant-loop-why l =
    (l.out.tokens ++ flat_map cause (drop l.why-index l.whys) ≡ l.fn.out.tokens ++ flat_map cause l.whys)
    × (l.out.before ≡ l.fn.out.before)
