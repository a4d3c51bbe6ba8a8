use Rattle.std.proofs.Common.{◌≡◌, ◌++◌, drop}
use Rattle.c62_json_loops.specs.Judged.{rests_from}
use Rattle.c62_json_loops.proofs.document.push_each_rest.Given as goal

-- with the objects of the others it is the whole
abbrev pub invariant-loop-number : goal.invariant-loop-number
invariant-loop-number l =
    (l.out.tokens ++ rests_from l.blocks l.number (drop l.number l.verdicts)
    ≡ l.fn.out.tokens ++ rests_from l.blocks 0 l.verdicts)
    × (l.out.before ≡ l.fn.out.before)
