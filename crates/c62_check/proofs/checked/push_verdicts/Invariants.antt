use Rattle.std.proofs.Common.{◌≡◌, ◌++◌, drop}
use Rattle.c62_check.specs.Lines.{lines_from}
use Rattle.c62_check.proofs.checked.push_verdicts.Given as goal

-- with the lines of the others it is the whole
abbrev pub invariant-loop-number : goal.invariant-loop-number
invariant-loop-number l = l.out.items ++ lines_from l.number (drop l.number l.verdicts) ≡ l.fn.out.items ++ lines_from 0 l.verdicts
