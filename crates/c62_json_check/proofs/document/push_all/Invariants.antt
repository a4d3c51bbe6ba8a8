use Rattle.std.proofs.Common.{◌≡◌, ◌++◌, drop}
use Rattle.c62_json_check.specs.Members.{blocks_from}
use Rattle.c62_json_check.proofs.document.push_all.Given as goal

-- with the objects of the others it is the whole
abbrev pub invariant-loop-number : goal.invariant-loop-number
invariant-loop-number l =
    (l.out.tokens ++ blocks_from l.number (drop l.number l.verdicts) ≡ l.fn.out.tokens ++ blocks_from 0 l.verdicts)
    × (l.out.before ≡ l.fn.out.before)
