use Rattle.std.proofs.Common.{◌≡◌, ◌++◌, drop}
use Rattle.std.specs.List.{flat_map}
use Rattle.c62_json_show.specs.Causes.{one_taken}
use Rattle.c62_json_show.proofs.causes.push_each_taken.Given as goal

abbrev pub invariant-loop-taken : goal.invariant-loop-taken
invariant-loop-taken l =
    (l.out.tokens ++ flat_map one_taken (drop l.taken-index l.more) ≡ l.fn.out.tokens ++ flat_map one_taken l.more)
    × (l.out.before ≡ l.fn.out.before)
